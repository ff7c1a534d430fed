-- The lines of fields and of stored documents, and what lines are made of (docs/FORMAT.md, "Printed texts").
use Rattle.std.specs.Prelude.{ℕ, ◌+◌, ◌/◌, ◌%◌, Bool, true, false, List, [], ◌∷◌, ◌++◌, codes}
use Rattle.std.specs.Char.{digit_char}
use Rattle.std.specs.Fmt.{decimal}
use Rattle.std.specs.List.{flat_map}
use Rattle.hex.specs.Hex.{encode_lower}
use Rattle.lu_prims.specs.Quoted.{quoted_text}
use Rattle.lu_types.specs.Tables.{TableField}
use Rattle.lu_types.specs.StoredFields.{StoredField}
use Rattle.lu_types.specs.declared.stored.Stored.{Stored}
use Rattle.lu_types.specs.declared.stored.Stored.TheVariants as values

-- a text and the line feed after it
abbrev pub line : List ℕ → List ℕ
line text = text ++ 10 ∷ []

-- two texts, one space apart
infixl 6 ◌▹◌
abbrev pub ◌▹◌ : List ℕ → List ℕ → List ℕ
a ▹ b = a ++ 32 ∷ b

-- the two hexadecimal digits of a byte
abbrev pub hex_byte : ℕ → List ℕ
hex_byte b = digit_char (b / 16) ∷ digit_char (b % 16) ∷ []

-- the texts of some things, numbered from here on
abbrev pub numbered : {A : Type 0} → (ℕ → A → List ℕ) → ℕ → List A → List ℕ
numbered text number [] = []
numbered text number (x ∷ xs) = text number x ++ numbered text (number + 1) xs

-- the line of a field: its number, its bits and its name
abbrev pub field_line : ℕ → TableField → List ℕ
field_line number field = line (codes "field" ▹ decimal number ▹ hex_byte field.bits ▹ quoted_text field.name)

-- the lines of fields, numbered from here on
abbrev pub field_lines : ℕ → List TableField → List ℕ
field_lines number fields = numbered field_line number fields

-- the digit of a flag
abbrev pub flag_digit : Bool → List ℕ
flag_digit true = codes "1"
flag_digit false = codes "0"

-- what a stored value is, as it is printed: a quoted text, or bytes in hexadecimal digits
abbrev pub value_text : Stored → List ℕ
value_text (values.Text text) = codes "text" ▹ quoted_text text
value_text (values.Binary bytes) = codes "binary" ▹ encode_lower bytes

-- the line of a stored value: its field, whether it was tokenized, and what it is
abbrev pub stored_line : StoredField → List ℕ
stored_line stored = line (codes "stored" ▹ decimal stored.field ▹ flag_digit stored.tokenized ▹ value_text stored.value)

-- the lines of stored values
abbrev pub stored_lines : List StoredField → List ℕ
stored_lines values = flat_map stored_line values

-- the lines of a document of a store: its number, and its stored values
abbrev pub doc_text : ℕ → List StoredField → List ℕ
doc_text number document = line (codes "doc" ▹ decimal number) ++ stored_lines document

-- the lines of documents of a store, numbered from here on
abbrev pub doc_lines : ℕ → List (List StoredField) → List ℕ
doc_lines number documents = numbered doc_text number documents
