-- The records of `.tvd`: its header, and for each document how many vectors it has, their fields, and how far each vector stands from the one
-- before it (format page, "Term vectors").
use Rattle.std.specs.Prelude.{ℕ, zero, suc, ◌+◌, ◌-◌, Bool, not, ◌&&◌, ◌==◌, List, [], ◌∷◌, ℤ, nat_lt, nat_le}
use Rattle.std.specs.List.{list_any}
use Rattle.lu_types.specs.Bits as bit
use Rattle.lu_types.specs.Bits.{has_bit}
use Rattle.lu_types.specs.RuleNumbers as rules
use Rattle.lu_types.specs.Tables.{TableField, bits_at}
use Rattle.lu_types.specs.declared.stored.Window.{Window}
use Rattle.lu_grammar.specs.Parts.{num, vlong}
use Rattle.lu_grammar.specs.Records.{Shape, whole, part, Condition}
use Rattle.lu_grammar.specs.Plans.{Plan, done, due, and_then}
use Rattle.lu_types.specs.Stores.{greatest_place}
use Rattle.term_vectors.specs.Format.{format_shape, format_rule, headed}
use Rattle.term_vectors.specs.declared.layout.DocumentPlaces.{DocumentPlaces}

-- a record of `.tvd`: the format number, how many vectors a document has, the field of one, or how far it stands from the one before
pub data TvdRecord : Type 0 where
  format : ℤ → TvdRecord
  count : ℕ → TvdRecord
  number : ℕ → TvdRecord
  difference : ℕ → TvdRecord

-- where a vector of a field stands in `.tvf`
pub record VectorPlace : Type 0 where
  pub field : ℕ
  pub place : ℕ

-- the format number must be the right one
abbrev pub format_conditions : TvdRecord → List Condition
format_conditions (format z) = format_rule rules.tvd_format z
format_conditions _ = []

-- how many vectors a document has
abbrev pub count_shape : Shape TvdRecord
count_shape = part num (λ n. whole (count n))

-- the number that the record states
abbrev pub stated : TvdRecord → ℕ
stated (format z) = 0
stated (count n) = n
stated (number n) = n
stated (difference n) = n

-- a document must start at its place
abbrev pub count_conditions : ℕ → ℕ → List Condition
count_conditions wanted place = record { rule = rules.tvd_place; broken = not (place == wanted) } ∷ []

-- the field of a vector
abbrev pub number_shape : Shape TvdRecord
number_shape = part num (λ n. whole (number n))

-- there is a field with the number, and it has vectors
abbrev pub has_vectors : List TableField → ℕ → Bool
has_vectors fields field = has_bit bit.vectors (bits_at fields field)

-- one of the numbers is this
abbrev pub is_among : ℕ → List ℕ → Bool
is_among n numbers = list_any (λ m. m == n) numbers

-- a vector must be of a field that has vectors, where this is asked, and of none that an earlier vector of the document is of
abbrev pub number_conditions : Bool → List TableField → List ℕ → ℕ → List Condition
number_conditions asked fields before field =
    record { rule = rules.vector_field; broken = asked && not (has_vectors fields field) }
    ∷ record { rule = rules.vector_twice; broken = is_among field before } ∷ []

-- the fields of so many vectors, after those before
unfoldable pub numbers_plan : Bool → List TableField → ℕ → List ℕ → Plan (List ℕ) TvdRecord
numbers_plan asked fields zero before = done []
numbers_plan asked fields (suc n) before =
    due number_shape (λ _ r. number_conditions asked fields before (stated r))
    (λ _ r. headed (stated r) (numbers_plan asked fields n (stated r ∷ before)))

-- how far a vector stands from the one before
abbrev pub difference_shape : Shape TvdRecord
difference_shape = part vlong (λ n. whole (difference n))

-- no vector may stand behind the greatest place
abbrev pub difference_conditions : ℕ → ℕ → List Condition
difference_conditions place far = record { rule = rules.tvf_sum; broken = nat_lt greatest_place (place + far) } ∷ []

-- the places of so many further vectors, after one at this place
unfoldable pub further_plan : ℕ → ℕ → Plan (List ℕ) TvdRecord
further_plan zero place = done []
further_plan (suc n) place =
    due difference_shape (λ _ r. difference_conditions place (stated r))
    (λ _ r. headed (place + stated r) (further_plan n (place + stated r)))

-- the vectors of these fields, at these places
unfoldable pub placed : List ℕ → List ℕ → List VectorPlace
placed [] places = []
placed (field ∷ fields) [] = []
placed (field ∷ fields) (place ∷ places) = record { field = field; place = place } ∷ placed fields places

-- a document that stands at these places, and of whose vectors the fields are looked up or not
abbrev pub document_plan : Bool → List TableField → DocumentPlaces → Plan (List VectorPlace) TvdRecord
document_plan asked fields at =
    due count_shape (λ place _. count_conditions at.tvd place)
    (λ _ r. and_then (numbers_plan asked fields (stated r) [])
    (λ numbers. and_then (further_plan (stated r - 1) at.tvf) (λ further. done (placed numbers (at.tvf ∷ further)))))

-- the window has the document with this number
abbrev pub is_within : Window → ℕ → Bool
is_within window nth = nat_le window.offset nth && nat_lt nth (window.offset + window.count)

-- documents that stand at these places, the first of this number
unfoldable pub documents_plan : List TableField → Window → ℕ → List DocumentPlaces → Plan (List (List VectorPlace)) TvdRecord
documents_plan fields window nth [] = done []
documents_plan fields window nth (at ∷ places) =
    and_then (document_plan (is_within window nth) fields at) (λ slots. headed slots (documents_plan fields window (suc nth) places))

-- a window of no documents
abbrev pub no_window : Window
no_window = record { offset = 0; count = 0 }

-- `.tvd` of a store with these places, of which a segment with these fields takes the documents in the window
abbrev pub tvd_plan : List TableField → Window → List DocumentPlaces → Plan (List (List VectorPlace)) TvdRecord
tvd_plan fields window places = due (format_shape format) (λ _ r. format_conditions r) (λ _ _. documents_plan fields window 0 places)
