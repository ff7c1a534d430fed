-- The spelling of a number in base 36.
use Rattle.std.specs.Prelude.{ℕ, ◌<◌, ◌≢◌, ◌⊎◌, ◌==◌, cond, List, [], ◌∷◌, length, map, slice_index}
use Rattle.std.specs.Char.{digit_char}
use Rattle.std.specs.Int.{IsInRange}
use Rattle.std.specs.Int.Digits.{digits_of}

-- the digits 0 to 9 and a to z of a number, the highest first and no zero leading; zero is the one digit 0
abbrev pub base36 : ℕ → List ℕ
base36 n = cond (n == 0) (48 ∷ []) (map digit_char (digits_of 36 n))

-- a digit or a small letter
abbrev pub IsPlainByte : ℕ → Type 0
IsPlainByte c = IsInRange 48 57 c ⊎ IsInRange 97 122 c

-- digits and small letters, with no zero before another
abbrev pub IsPlain : List ℕ → Type 0
IsPlain bs = (1 < length bs → slice_index bs 0 ≢ 48) × ((k : ℕ) → k < length bs → IsPlainByte (slice_index bs k))
