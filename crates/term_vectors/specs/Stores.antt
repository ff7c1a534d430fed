-- What the three files of a store stand for (format page, "Term vectors").
use Rattle.std.specs.Prelude.{◌≢◌, ◌<◌, ◌^◌, ℕ, List, [], length, Option, All, AllPairs}
use Rattle.lu_types.specs.Tables.{TableField}
use Rattle.lu_types.specs.declared.kind.FileKind.TheVariants.{Tvx, Tvd, Tvf}
use Rattle.lu_types.specs.declared.stored.Window.{Window}
use Rattle.lu_types.specs.Stores.{windowed}
use Rattle.lu_types.specs.FilePlans.{FilePlan, stands, needs}
use Rattle.lu_grammar.specs.Reading.{value_or}
use Rattle.lu_grammar.specs.Plans.{read_file}
use Rattle.lu_model.specs.Valid.{IsVector}
use Rattle.term_vectors.specs.declared.layout.DocumentPlaces.{DocumentPlaces}
use Rattle.term_vectors.specs.Places.{tvx_plan}
use Rattle.term_vectors.specs.Fields.{VectorPlace, no_window, tvd_plan}
use Rattle.term_vectors.specs.Vectors.{StoredVector, tvf_plan}

-- the three files, in order, of a store of so many documents, of which a segment with these fields takes a window, and what they stand for:
-- the vectors of each document in the window
abbrev pub vector_files : ℕ → Window → List TableField → Option (List ℕ) → Option (List ℕ) → Option (List ℕ) → FilePlan (List (List StoredVector))
vector_files total window fields tvx tvd tvf =
    needs Tvx tvx (λ _. tvx_plan total)
    (λ _ places. needs Tvd tvd (λ _. tvd_plan fields window places)
    (λ _ slots. needs Tvf tvf (λ _. tvf_plan slots) (λ _ all. stands (windowed window all))))

-- what is true of the vectors of a document, in a segment with these fields
pub record AreVectors (fields : List TableField) (vectors : List StoredVector) : Type 0 where
  pub few : length vectors < 2 ^ 31
  pub apart : AllPairs (λ v w. v.field ≢ w.field) vectors
  pub each : All (IsVector fields) vectors

-- ---- what is read

-- the places that a `.tvx` without a fault holds
abbrev pub places_in : ℕ → List ℕ → List DocumentPlaces
places_in total tvx = value_or [] (read_file (tvx_plan total) tvx)

-- where the vectors stand by a `.tvd` without a fault, whichever of them a segment takes
abbrev pub slots_in : List DocumentPlaces → List ℕ → List (List VectorPlace)
slots_in places tvd = value_or [] (read_file (tvd_plan [] no_window places) tvd)

-- the vectors that a `.tvf` without a fault holds
abbrev pub stored_vectors_in : List (List VectorPlace) → List ℕ → List (List StoredVector)
stored_vectors_in slots tvf = value_or [] (read_file (tvf_plan slots) tvf)
