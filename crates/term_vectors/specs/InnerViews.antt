-- What the views read (format page, "Term vectors").
use Rattle.std.specs.Prelude.{◌≡◌, ◌≤◌, ◌+◌, ◌-◌, ℕ, false, List, [], ◌∷◌, length, map, Option, Ok, vec_capacity}
use Rattle.lu_types.specs.declared.stored.Window.{Window}
use Rattle.lu_grammar.specs.Bytes.{IsBytes, Cursor, place_in}
use Rattle.lu_grammar.specs.Reading.{value_or}
use Rattle.lu_grammar.specs.Plans.{Plan, done, and_then, read_plan, read_file}
use Rattle.lu_model.specs.Index.{Span, VectorTerm}
use Rattle.term_vectors.specs.Places.{tvx_plan}
use Rattle.term_vectors.specs.Fields.{TvdRecord, VectorPlace, numbers_plan, further_plan, placed, no_window, tvd_plan}
use Rattle.term_vectors.specs.Vectors.{StoredVector, positions_plan, spans_plan, terms_plan, vector_plan, tvf_plan}
use Rattle.term_vectors.specs.declared.texts.LastText.{LastText}
use Rattle.term_vectors.specs.InnerTexts.{text_before, IsSoundText}
use Rattle.term_vectors.specs.Stores.{places_in, slots_in, stored_vectors_in}

-- what stands for no vector
abbrev pub no_vector : StoredVector
no_vector = record { field = 0; bits = 0; terms = [] }

-- what stands for no place
abbrev pub no_slot : VectorPlace
no_slot = record { field = 0; place = 0 }

-- so many vectors of a document, whose fields stand here, and the first of which stands at a place of `.tvf`
abbrev pub slots_plan : ℕ → ℕ → Plan (List VectorPlace) TvdRecord
slots_plan count place = and_then (numbers_plan false [] count []) (λ numbers. and_then (further_plan (count - 1) place) (λ further. done (placed numbers (place ∷ further))))

abbrev pub slots_here : ℕ → ℕ → Cursor → List VectorPlace
slots_here count place here = (value_or ([], here) (read_plan (slots_plan count place) here)).0

-- the vector that stands at its place
abbrev pub vector_here : List ℕ → VectorPlace → StoredVector
vector_here tvf at = (value_or (no_vector, place_in tvf at.place) (read_plan (vector_plan at) (place_in tvf at.place))).0

-- the vectors of a document
abbrev pub vectors_here : List ℕ → ℕ → ℕ → ℕ → List ℕ → List StoredVector
vectors_here tvd numbers count place tvf = map (vector_here tvf) (slots_here count place (place_in tvd numbers))

-- the vector stands at its place
abbrev pub IsVectorThere : List ℕ → VectorPlace → Type 0
IsVectorThere tvf at = (d : Cursor) × (read_plan (vector_plan at) (place_in tvf at.place) ≡ Ok (vector_here tvf at, d)) × (at.place ≤ length tvf)

abbrev pub AreAllThere : List ℕ → List VectorPlace → Type 0
AreAllThere tvf [] = Unit {0}
AreAllThere tvf (at ∷ slots) = IsVectorThere tvf at × AreAllThere tvf slots

-- the vectors of a document stand there
pub record AreThere (tvd : List ℕ) (numbers count place : ℕ) (tvf : List ℕ) : Type 0 where
  pub within : numbers ≤ length tvd
  pub bytes : IsBytes tvf
  pub end : Cursor
  pub slots : read_plan (slots_plan count place) (place_in tvd numbers) ≡ Ok (slots_here count place (place_in tvd numbers), end)
  pub vectors : AreAllThere tvf (slots_here count place (place_in tvd numbers))

-- the files have no fault, and the window is in the store
pub record HaveNoFault (total : ℕ) (window : Window) (tvx tvd tvf : List ℕ) : Type 0 where
  pub within : window.offset + window.count ≤ total
  pub tvd_bytes : IsBytes tvd
  pub tvf_bytes : IsBytes tvf
  pub places : read_file (tvx_plan total) tvx ≡ Ok (places_in total tvx)
  pub slots : read_file (tvd_plan [] no_window (places_in total tvx)) tvd ≡ Ok (slots_in (places_in total tvx) tvd)
  pub vectors : read_file (tvf_plan (slots_in (places_in total tvx) tvd)) tvf ≡ Ok (stored_vectors_in (slots_in (places_in total tvx) tvd) tvf)

-- ---- what is left of a term

abbrev pub positions_left : ℕ → ℕ → Cursor → List ℕ
positions_left n last here = (value_or ([], here) (read_plan (positions_plan n last) here)).0

abbrev pub ArePositionsLeft : ℕ → ℕ → Cursor → Type 0
ArePositionsLeft n last here = (end : Cursor) × (read_plan (positions_plan n last) here ≡ Ok (positions_left n last here, end))

abbrev pub spans_left : ℕ → ℕ → Cursor → List Span
spans_left n last here = (value_or ([], here) (read_plan (spans_plan n last) here)).0

abbrev pub AreSpansLeft : ℕ → ℕ → Cursor → Type 0
AreSpansLeft n last here = (end : Cursor) × (read_plan (spans_plan n last) here ≡ Ok (spans_left n last here, end))

-- ---- what is left of a vector

abbrev pub terms_left : ℕ → ℕ → Option (List ℕ) → Cursor → List VectorTerm
terms_left bits n before here = (value_or ([], here) (read_plan (terms_plan bits n before) here)).0

-- so many terms stand there, after the text before, if there is one
abbrev pub AreTermsThere : ℕ → ℕ → Option (List ℕ) → Cursor → Type 0
AreTermsThere bits n before here = (end : Cursor) × (read_plan (terms_plan bits n before) here ≡ Ok (terms_left bits n before here, end))

-- no text is longer
abbrev pub AreTextsWithin : ℕ → List VectorTerm → Type 0
AreTextsWithin most [] = Unit {0}
AreTextsWithin most (t ∷ terms) = (length t.text ≤ most) × AreTextsWithin most terms

-- a walk over terms: so many stand at this place, after the last text, if there is one, and the buffer has room for each text
pub record IsTermWalk (tvf : List ℕ) (place bits left : ℕ) (last : LastText) : Type 0 where
  pub within : place ≤ length tvf
  pub sound : IsSoundText last
  pub there : AreTermsThere bits left (text_before last) (place_in tvf place)
  pub room : AreTextsWithin (vec_capacity last.bytes) (terms_left bits left (text_before last) (place_in tvf place))
