-- The bytes of a field table.
use Rattle.std.specs.Prelude.{ℕ, List, ◌++◌, length, All}
use Rattle.std.specs.List.{flat_map}
use Rattle.lu_grammar.specs.Parts.{byte, vint, num, text, spelling, IsValue}
use Rattle.lu_types.specs.Tables.{TableField}
use Rattle.field_infos.specs.Fnm.{format_number}

-- each name is a text that a file can hold
abbrev pub AreNamed : List TableField → Type 0
AreNamed fields = All (λ field. IsValue text field.name) fields

-- the spelling of a field: its name, and its bits
abbrev pub field_spelling : TableField → List ℕ
field_spelling field = spelling text field.name ++ spelling byte field.bits

-- the format, and how many fields follow
abbrev pub header_spelling : ℕ → List ℕ
header_spelling count = spelling vint format_number ++ spelling num count

-- the one spelling of a table: the header, and each field
abbrev pub fnm_spelling : List TableField → List ℕ
fnm_spelling fields = header_spelling (length fields) ++ flat_map field_spelling fields
