-- A `.fnm` file: the fields of a segment, in the order of their numbers.
use Rattle.std.specs.Prelude.{ℕ, ◌^◌, ◌-◌, Bool, false, not, List, [], ◌∷◌, ◌++◌, Option, Some, None, is_some, nat_le, ◌==◌, ◌&&◌}
use Rattle.lu_grammar.specs.Parts.{byte, vint, num, text}
use Rattle.lu_grammar.specs.Records.{Shape, whole, part, Condition}
use Rattle.lu_grammar.specs.Plans.{Plan, done, due, Kind, times}
use Rattle.lu_types.specs.Tables.{TableField, number_of}
use Rattle.lu_types.specs.RuleNumbers as number
use Rattle.lu_types.specs.Bits as bit
use Rattle.lu_types.specs.Bits.{has_bit}

-- the format number -2 of a field table, as the number that is spelled
abbrev pub format_number : ℕ
format_number = 2 ^ 32 - 2

-- a record of the file: the format and the number of fields, or a field
pub data FnmRecord : Type 0 where
  header : (format count : ℕ) → FnmRecord
  field : TableField → FnmRecord

-- the format, and how many fields follow
abbrev pub header_shape : Shape FnmRecord
header_shape = part vint (λ format. part num (λ count. whole (header format count)))

-- the name and the bits of a field
abbrev pub field_shape : Shape FnmRecord
field_shape = part text (λ name. part byte (λ bits. whole (field (record { name = name; bits = bits }))))

-- the commit counts norms for another number of fields
abbrev pub is_other_count : Option ℕ → ℕ → Bool
is_other_count None count = false
is_other_count (Some norms) count = not (norms == count)

-- what a header may not be
abbrev pub header_conditions : Option ℕ → FnmRecord → List Condition
header_conditions norm_fields (header format count) =
    record { rule = number.fnm_format; broken = not (format == format_number) } ∷ record { rule = number.norm_count; broken = is_other_count norm_fields count } ∷ []
header_conditions norm_fields (field f) = []

-- a field with positions, in a segment that has none
abbrev pub lacks_prox : Bool → ℕ → Bool
lacks_prox has_prox bits = not has_prox && (has_bit bit.indexed bits && not (has_bit bit.omit_tf bits))

-- what a field may not be, after those before it
abbrev pub field_conditions : Bool → List TableField → FnmRecord → List Condition
field_conditions has_prox fields (header format count) = []
field_conditions has_prox fields (field f) =
    record { rule = number.field_twice; broken = is_some (number_of f.name fields) } ∷ record { rule = number.field_bits; broken = nat_le 128 f.bits }
    ∷ record { rule = number.prox_field; broken = lacks_prox has_prox f.bits } ∷ []

-- the fields with this one
abbrev pub with_field : List TableField → FnmRecord → List TableField
with_field fields (header format count) = fields
with_field fields (field f) = fields ++ f ∷ []

-- a field after those before it
abbrev pub one_field : Bool → Kind (List TableField) FnmRecord
one_field has_prox = record { shape = λ _. field_shape; conditions = λ fields place r. field_conditions has_prox fields r; after = λ fields place r. with_field fields r }

-- as many fields as the header says
abbrev pub after_header : Bool → FnmRecord → Plan (List TableField) FnmRecord
after_header has_prox (header format count) = times (one_field has_prox) count []
after_header has_prox (field f) = done []

-- the whole file: the header, and then the fields
abbrev pub fnm_plan : Bool → Option ℕ → Plan (List TableField) FnmRecord
fnm_plan has_prox norm_fields = due header_shape (λ place r. header_conditions norm_fields r) (λ place r. after_header has_prox r)
