-- What a walk over the vectors of a document has left (format page, "Term vectors").
use Rattle.std.specs.Prelude.{◌≡◌, ◌<◌, ◌≤◌, ◌-◌, ℕ, false, List, [], ◌∷◌, length, map, None, Ok}
use Rattle.lu_grammar.specs.Bytes.{IsBytes, Cursor, place_in}
use Rattle.lu_grammar.specs.Reading.{value_or}
use Rattle.lu_grammar.specs.Plans.{read_plan}
use Rattle.term_vectors.specs.declared.document.VectorField.{VectorField}
use Rattle.term_vectors.specs.declared.cursor.VectorStep.{VectorStep}
use Rattle.term_vectors.specs.Fields.{VectorPlace, numbers_plan, further_plan, placed}
use Rattle.term_vectors.specs.Vectors.{StoredVector}
use Rattle.term_vectors.specs.InnerViews.{vector_here, AreAllThere, terms_left, AreTermsThere}

-- the fields of so many vectors, which stand here
abbrev pub numbers_left : ℕ → Cursor → List ℕ
numbers_left n here = (value_or ([], here) (read_plan (numbers_plan false [] n []) here)).0

-- the places of so many further vectors, after one at this place
abbrev pub further_left : ℕ → ℕ → Cursor → List ℕ
further_left n place here = (value_or ([], here) (read_plan (further_plan n place) here)).0

-- so many vectors: their fields and their differences stand at these places of `.tvd`, and the first of them at this place of `.tvf`
abbrev pub slots_left : List ℕ → ℕ → ℕ → ℕ → ℕ → List VectorPlace
slots_left tvd numbers further left place =
    placed (numbers_left left (place_in tvd numbers)) (place ∷ further_left (left - 1) place (place_in tvd further))

abbrev pub vectors_left : List ℕ → ℕ → ℕ → ℕ → ℕ → List ℕ → List StoredVector
vectors_left tvd numbers further left place tvf = map (vector_here tvf) (slots_left tvd numbers further left place)

-- they stand there
pub record AreVectorsLeft (tvd : List ℕ) (numbers further left place : ℕ) (tvf : List ℕ) : Type 0 where
  pub numbers_within : numbers ≤ length tvd
  pub further_within : further ≤ length tvd
  pub tvd_bytes : IsBytes tvd
  pub bytes : IsBytes tvf
  pub numbers_end : Cursor
  pub numbered : read_plan (numbers_plan false [] left []) (place_in tvd numbers) ≡ Ok (numbers_left left (place_in tvd numbers), numbers_end)
  pub further_end : Cursor
  pub placed_so : read_plan (further_plan (left - 1) place) (place_in tvd further) ≡ Ok (further_left (left - 1) place (place_in tvd further), further_end)
  pub vectors : AreAllThere tvf (slots_left tvd numbers further left place)

-- behind a vector so many are left, whose places are these: the first of them is that of the step, and the others follow its difference
pub record IsSteppedTo (tvd : List ℕ) (left : ℕ) (places : List ℕ) (end : Cursor) (step : VectorStep) : Type 0 where
  pub within : step.further ≤ length tvd
  pub rest : List ℕ
  pub reads : read_plan (further_plan (left - 1) step.place) (place_in tvd step.further) ≡ Ok (rest, end)
  pub is : 0 < left → places ≡ step.place ∷ rest

-- ---- a vector

abbrev pub vector_behind : VectorField → List ℕ → ℕ → ℕ → StoredVector
vector_behind field tvf terms count = record { field = field.number; bits = field.bits; terms = terms_left field.bits count None (place_in tvf terms) }

-- its terms stand behind its heading
pub record IsVectorBehind (bits : ℕ) (tvf : List ℕ) (terms count : ℕ) : Type 0 where
  pub within : terms ≤ length tvf
  pub there : AreTermsThere bits count None (place_in tvf terms)
