-- The numbers that the format fixes for both files of a store, and the format number at their heads (format page, "Stored documents").
use Rattle.std.specs.Prelude.{ℕ, Bool, not, ℤ, pos}
use Rattle.std.specs.Ordering.{int_eq}
use Rattle.lu_grammar.specs.Parts.{int32}
use Rattle.lu_grammar.specs.Records.{Shape, whole, part}

-- the format number of `.fdx` and `.fdt`
abbrev pub store_format : ℤ
store_format = pos 2

-- the bytes of a place in `.fdx`
abbrev pub place_length : ℕ
place_length = 8

-- the bit of a value that was tokenized
abbrev pub bit_tokenized : ℕ
bit_tokenized = 0x01

-- the bit of a value that is binary
abbrev pub bit_binary : ℕ
bit_binary = 0x02

-- a format number
abbrev pub format_shape : Shape ℤ
format_shape = part int32 (λ z. whole z)

-- the number is not that of the format
abbrev pub is_other_store_format : ℤ → Bool
is_other_store_format z = not (int_eq z store_format)
