-- The records of `.fdt`: its header, and the documents, each followed by its values (format page, "Stored documents").
use Rattle.std.specs.Prelude.{ℕ, ◌+◌, Bool, not, ◌&&◌, List, [], ◌∷◌, ◌++◌, length, ℤ, pos, get_or, nat_lt, nat_le}
use Rattle.std.specs.Ordering.{int_eq}
use Rattle.lu_types.specs.declared.stored.Window.{Window}
use Rattle.lu_types.specs.RuleNumbers as rules
use Rattle.lu_grammar.specs.Parts.{num}
use Rattle.lu_grammar.specs.Records.{Shape, whole, part, followed, Condition}
use Rattle.lu_grammar.specs.Plans.{Plan, done, due, and_then, Kind, times, each}
use Rattle.stored_fields.specs.Values.{StoredDocument, StoredEntry, stored_entry_shape, stored}
use Rattle.stored_fields.specs.Format.{bit_tokenized, bit_binary, format_shape, is_other_store_format}

-- a record of `.fdt`: the format number, how many values a document has, or one of them
pub data FdtRecord : Type 0 where
  format : ℤ → FdtRecord
  count : ℕ → FdtRecord
  value : StoredEntry → FdtRecord

-- the header
abbrev pub header_shape : Shape FdtRecord
header_shape = followed format_shape (λ z. whole (format z))

-- the format number must be the right one
abbrev pub format_conditions : FdtRecord → List Condition
format_conditions (format z) = record { rule = rules.fdt_format; broken = is_other_store_format z } ∷ []
format_conditions _ = []

-- how many values a document has
abbrev pub count_shape : Shape FdtRecord
count_shape = part num (λ n. whole (count n))

-- the place is not the one that is wanted
abbrev pub is_elsewhere : ℕ → ℤ → Bool
is_elsewhere place wanted = not (int_eq (pos place) wanted)

-- a document must start at its place
abbrev pub start_conditions : ℤ → ℕ → List Condition
start_conditions wanted place = record { rule = rules.fdt_place; broken = is_elsewhere place wanted } ∷ []

-- a value has a bit that means nothing
abbrev pub has_other_bit : ℕ → Bool
has_other_bit bits = nat_lt (bit_tokenized + bit_binary) bits

-- a value
abbrev pub value_shape : Shape FdtRecord
value_shape = followed stored_entry_shape (λ entry. whole (value entry))

-- the field of a value must be one of so many, where this is asked, and its bits must mean something
abbrev pub stored_entry_conditions : Bool → ℕ → ℕ → ℕ → List Condition
stored_entry_conditions asked fields field bits =
    record { rule = rules.stored_field; broken = asked && nat_le fields field }
    ∷ record { rule = rules.stored_bits; broken = has_other_bit bits } ∷ []

-- the same of a record that is a value
abbrev pub value_conditions : Bool → ℕ → FdtRecord → List Condition
value_conditions asked fields (value entry) = stored_entry_conditions asked fields entry.field entry.bits
value_conditions asked fields _ = []

-- the values so far, and one more
abbrev pub with_value : StoredDocument → FdtRecord → StoredDocument
with_value values (value entry) = values ++ stored entry ∷ []
with_value values _ = values

-- the values of a document, after those so far
abbrev pub values_kind : Bool → ℕ → Kind StoredDocument FdtRecord
values_kind asked fields = record {
  shape = λ _. value_shape;
  conditions = λ _ _ r. value_conditions asked fields r;
  after = λ values _ r. with_value values r;
}

-- the number that the record states
abbrev pub count_of : FdtRecord → ℕ
count_of (count n) = n
count_of _ = 0

-- the window has the document with this number
abbrev pub is_within : Window → ℕ → Bool
is_within window number = nat_le window.offset number && nat_lt number (window.offset + window.count)

-- a document, which starts at a place, and of whose values the fields are looked up or not
abbrev pub document_plan : Bool → ℕ → ℤ → Plan StoredDocument FdtRecord
document_plan asked fields wanted =
    due count_shape (λ place _. start_conditions wanted place) (λ _ r. times (values_kind asked fields) (count_of r) [])

-- the same after the documents so far
abbrev pub document_at : Bool → ℕ → ℤ → List StoredDocument → Plan (List StoredDocument) FdtRecord
document_at asked fields wanted documents = and_then (document_plan asked fields wanted) (λ values. done (documents ++ values ∷ []))

-- the next document of a store with these places
abbrev pub next_document : Window → ℕ → List ℤ → List StoredDocument → Plan (List StoredDocument) FdtRecord
next_document window fields places documents =
    document_at (is_within window (length documents)) fields (get_or places (length documents) (pos 0)) documents

-- `.fdt` of a store with these places, of which a segment with so many fields takes the documents in the window: its header, and the documents
abbrev pub fdt_plan : Window → ℕ → List ℤ → Plan (List StoredDocument) FdtRecord
fdt_plan window fields places =
    due header_shape (λ _ r. format_conditions r) (λ _ _. each (next_document window fields places) (length places) [])
