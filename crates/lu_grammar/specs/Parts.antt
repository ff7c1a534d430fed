-- The parts that records are made of, and how each value of a part is spelled.
use Rattle.std.specs.Prelude.{◌≡◌, ℕ, zero, suc, ◌+◌, ◌/◌, ◌%◌, ◌^◌, ◌<◌, ◌≤◌, ℤ, ◌⊎◌, List, [], ◌∷◌, ◌++◌, length, take, slice_index, Option, Some, None, nat_lt, nat_le, ◌==◌, ◌&&◌, if◌then◌else◌, FitsSigned}
use Rattle.std.specs.Option.{option_map}
use Rattle.std.specs.Int.{w32, w64, to_be_bytes, cast_unsigned}
use Rattle.std.specs.Str.{IsUtf8}
use Rattle.lu_grammar.specs.declared.bad.Bad.{Bad}
use Rattle.lu_grammar.specs.declared.bad.Bad.TheVariants.{Ends, LongNumber, TooGreat, NotUtf8}
use Rattle.lu_grammar.specs.Bytes.{IsBytes}

-- a byte; a whole number of four or eight bytes with its sign; a number in groups of seven bits, below 2 ^ 32, below 2 ^ 31, below 2 ^ 63;
-- so many bytes; a text
pub data Part : Type 0 where
  byte : Part
  int32 : Part
  int64 : Part
  vint : Part
  num : Part
  vlong : Part
  bytes : ℕ → Part
  text : Part

-- what a part stands for
abbrev pub Value : Part → Type 0
Value byte = ℕ
Value int32 = ℤ
Value int64 = ℤ
Value vint = ℕ
Value num = ℕ
Value vlong = ℕ
Value (bytes n) = List ℕ
Value text = List ℕ

-- the value is one that the part can stand for
abbrev pub IsValue : (p : Part) → Value p → Type 0
IsValue byte n = n < 256
IsValue int32 z = FitsSigned w32 z
IsValue int64 z = FitsSigned w64 z
IsValue vint n = n < 2 ^ 32
IsValue num n = n < 2 ^ 31
IsValue vlong n = n < 2 ^ 63
IsValue (bytes n) bs = (length bs ≡ n) × IsBytes bs
IsValue text bs = (length bs < 2 ^ 31) × IsUtf8 bs

-- a number in groups of seven bits, the low group first, the high bit set where more follow: at most so many bytes before the last
unfoldable pub groups : ℕ → ℕ → List ℕ
groups zero n = n ∷ []
groups (suc more) n = if nat_lt n 128 then n ∷ [] else (128 + n % 128) ∷ groups more (n / 128)

-- the one spelling of a value
abbrev pub spelling : (p : Part) → Value p → List ℕ
spelling byte n = n ∷ []
spelling int32 z = to_be_bytes w32 (cast_unsigned w32 z)
spelling int64 z = to_be_bytes w64 (cast_unsigned w64 z)
spelling vint n = groups 4 n
spelling num n = groups 4 n
spelling vlong n = groups 8 n
spelling (bytes n) bs = bs
spelling text bs = groups 4 (length bs) ++ bs

-- these bytes spell the value
abbrev pub IsSpelling : (p : Part) → Value p → List ℕ → Type 0
IsSpelling p v front = IsValue p v × (front ≡ spelling p v)

-- no spelling of the part begins the bytes
abbrev pub HasNone : Part → List ℕ → Type 0
HasNone p bs = (v : Value p) (back : List ℕ) → IsValue p v → bs ≡ spelling p v ++ back → ⊥

-- the place of the first byte without the high bit
unfoldable pub first_low : List ℕ → Option ℕ
first_low [] = None
first_low (b ∷ bs) = if nat_lt b 128 then Some 0 else option_map suc (first_low bs)

-- what is wrong with a number whose last byte does not come, or comes at this place
abbrev pub bad_last : ℕ → List ℕ → Option ℕ → Bad
bad_last most bs None = if nat_le most (length bs) then LongNumber else Ends
bad_last most bs (Some k) = if nat_lt 0 k && (slice_index bs k == 0) then LongNumber else TooGreat

-- what is wrong where no number of at most so many bytes begins the bytes: no last byte, a needless 0, or too great
abbrev pub bad_number : ℕ → List ℕ → Bad
bad_number most bs = bad_last most bs (first_low (take most bs))

-- what is wrong with a text of so many bytes
abbrev pub IsWrongText : ℕ → List ℕ → Bad → Type 0
IsWrongText n bs bad = ((length bs < n) × (bad ≡ Ends)) ⊎ ((n ≤ length bs) × (¬ IsUtf8 (take n bs)) × (bad ≡ NotUtf8))

-- no spelling of the part begins the bytes, and this is what is wrong
abbrev pub IsWrong : Part → List ℕ → Bad → Type 0
IsWrong byte bs bad = HasNone byte bs × (bad ≡ Ends)
IsWrong int32 bs bad = HasNone int32 bs × (bad ≡ Ends)
IsWrong int64 bs bad = HasNone int64 bs × (bad ≡ Ends)
IsWrong vint bs bad = HasNone vint bs × (bad ≡ bad_number 5 bs)
IsWrong num bs bad = HasNone num bs × (bad ≡ bad_number 5 bs)
IsWrong vlong bs bad = HasNone vlong bs × (bad ≡ bad_number 9 bs)
IsWrong (bytes n) bs bad = HasNone (bytes n) bs × (bad ≡ Ends)
IsWrong text bs bad = (HasNone num bs × (bad ≡ bad_number 5 bs))
    ⊎ ((n : ℕ) × (back : List ℕ) × (n < 2 ^ 31) × (bs ≡ groups 4 n ++ back) × IsWrongText n back bad)
