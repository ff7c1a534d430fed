-- Stored values, and how one is spelled (format page, "Stored documents").
use Rattle.std.specs.Prelude.{ℕ, Bool, true, false, List, ◌<◌, All}
use Rattle.lu_types.specs.declared.stored.Stored.{Stored}
use Rattle.lu_types.specs.declared.stored.Stored.TheVariants.{Text, Binary}
use Rattle.lu_types.specs.Bits.{has_bit}
use Rattle.lu_types.specs.StoredFields.{StoredField}
use Rattle.lu_grammar.specs.Parts.{byte, num, bytes, text}
use Rattle.lu_grammar.specs.Records.{Shape, whole, part, followed}
use Rattle.stored_fields.specs.Format.{bit_tokenized, bit_binary}

-- the values of a document, in order
abbrev pub StoredDocument : Type 0
StoredDocument = List StoredField

-- the fields of all values of a document are among so many
abbrev pub HasFields : ℕ → StoredDocument → Type 0
HasFields fields values = All (λ v. v.field < fields) values

-- a value as it stands in `.fdt`, with its bits
pub record StoredEntry : Type 0 where
  pub field : ℕ
  pub bits : ℕ
  pub value : Stored

-- so many bytes where the value is binary, and a text where it is not
abbrev pub content_shape : Bool → Shape Stored
content_shape true = part num (λ n. part (bytes n) (λ front. whole (Binary front)))
content_shape false = part text (λ t. whole (Text t))

-- the number of the field, the bits, and what the value is
abbrev pub stored_entry_shape : Shape StoredEntry
stored_entry_shape =
    part num (λ field. part byte
    (λ bits. followed (content_shape (has_bit bit_binary bits)) (λ value. whole (record { field = field; bits = bits; value = value }))))

-- what an entry stores
abbrev pub stored : StoredEntry → StoredField
stored entry = record { field = entry.field; tokenized = has_bit bit_tokenized entry.bits; value = entry.value }
