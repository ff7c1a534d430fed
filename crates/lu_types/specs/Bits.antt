-- The bits of a field (format page, "Field tables").
use Rattle.std.specs.Prelude.{ℕ, Bool, not, ◌==◌, bit_and}

-- the field is indexed
abbrev pub indexed : ℕ
indexed = 0x01

-- the field's documents have vectors
abbrev pub vectors : ℕ
vectors = 0x02

-- the field's vectors have positions
abbrev pub vector_positions : ℕ
vector_positions = 0x04

-- the field's vectors have offsets
abbrev pub vector_offsets : ℕ
vector_offsets = 0x08

-- the field has no norms
abbrev pub omit_norms : ℕ
omit_norms = 0x10

-- the field's occurrences may have payloads
abbrev pub payloads : ℕ
payloads = 0x20

-- the field has neither frequencies nor positions
abbrev pub omit_tf : ℕ
omit_tf = 0x40

-- the bits have this one
abbrev pub has_bit : ℕ → ℕ → Bool
has_bit bit bits = not (bit_and bits bit == 0)
