-- A text between quotes.
use Rattle.std.specs.Prelude.{ℕ, ◌/◌, ◌%◌, cond, List, [], ◌∷◌, ◌++◌, ◌==◌, ◌||◌, nat_lt}
use Rattle.std.specs.Char.{digit_char}
use Rattle.std.specs.List.{flat_map}

-- a backslash, `u00` and two hexadecimal digits
abbrev pub by_number : ℕ → List ℕ
by_number b = 92 ∷ 117 ∷ 48 ∷ 48 ∷ digit_char (b / 16) ∷ digit_char (b % 16) ∷ []

-- a byte of a text between quotes: a backslash before `"` and `\`, a control by its number, and else the byte itself
abbrev pub escaped : ℕ → List ℕ
escaped b = cond (b == 34 || b == 92) (92 ∷ b ∷ []) (cond (nat_lt b 32) (by_number b) (b ∷ []))

-- the bytes of a text between two `"`
abbrev pub quoted_text : List ℕ → List ℕ
quoted_text bytes = 34 ∷ flat_map escaped bytes ++ 34 ∷ []
