-- The order of texts.
use Rattle.std.specs.Prelude.{ℕ, ◌+◌, ◌-◌, cond, List, nat_lt}
use Rattle.std.specs.declared.cmp.Ordering.{Ordering}
use Rattle.std.specs.Ordering.{nat_cmp}
use Rattle.std.specs.Cmp.Lexicographic.{slice_cmp}
use Rattle.std.specs.List.{flat_map}
use Rattle.std.specs.Char.Escape.{encode_utf16}
use Rattle.std.specs.Str.{chars}

-- the UTF-16 units of a text
abbrev pub units : List ℕ → List ℕ
units bytes = flat_map encode_utf16 (chars bytes)

-- how two texts stand to each other: by their units, the first that differ decide, and a prefix comes first
abbrev pub text_cmp : List ℕ → List ℕ → Ordering
text_cmp s t = slice_cmp nat_cmp (units s) (units t)

-- where a byte of UTF-8 stands among the others: EE and EF after all, since U+E000 to U+FFFF come after what takes two units
unfoldable pub byte_rank : ℕ → ℕ
byte_rank b = cond (nat_lt b 0xEE) b (cond (nat_lt b 0xF0) (b + 0x10) (b - 2))

-- how the bytes after what two texts share stand to each other: by where the first that differ stand in the order of UTF-16 units
abbrev pub bytes_cmp : List ℕ → List ℕ → Ordering
bytes_cmp a b = slice_cmp (λ x y. nat_cmp (byte_rank x) (byte_rank y)) a b
