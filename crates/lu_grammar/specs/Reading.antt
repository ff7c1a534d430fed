-- What stands at the front of some bytes, read from left to right.
use Rattle.std.specs.Prelude.{ℕ, zero, suc, ◌+◌, ◌-◌, ◌*◌, ◌^◌, Bool, true, false, not, List, [], ◌∷◌, length, take, drop, Result, Ok, Err, nat_lt, ◌==◌, ◌&&◌, if◌then◌else◌}
use Rattle.std.specs.Int.{Width, w32, w64, from_be_bytes, cast_signed}
use Rattle.std.specs.Prelude.{ℤ}
use Rattle.std.specs.Str.{is_utf8}
use Rattle.lu_grammar.specs.declared.bad.Bad.{Bad}
use Rattle.lu_grammar.specs.declared.bad.Bad.TheVariants.{Ends, LongNumber, TooGreat, NotUtf8}
use Rattle.lu_grammar.specs.Bytes.{Cursor, moved}
use Rattle.lu_grammar.specs.Parts.{Part, byte, int32, int64, vint, num, vlong, bytes, text, Value}

-- one step and then another, or what was wrong
infixl 10 ◌>>=◌
abbrev pub ◌>>=◌ : {A B E : Type 0} → Result A E → (A → Result B E) → Result B E
(Ok x) >>= f = f x
(Err e) >>= f = Err e

-- what there is, or else another value
abbrev pub value_or : {A E : Type 0} → A → Result A E → A
value_or default (Ok x) = x
value_or default (Err e) = default

-- the last byte of a number, which may be 0 only where it is alone
abbrev pub last_group : Bool → ℕ → Result (ℕ × ℕ) Bad
last_group alone b = if not alone && (b == 0) then Err LongNumber else Ok (b, 1)

-- a byte with the high bit, and the number after it
abbrev pub with_group : ℕ → Result (ℕ × ℕ) Bad → Result (ℕ × ℕ) Bad
with_group b after = after >>= λ x. Ok (b - 128 + 128 * x.0, suc x.1)

-- the number in groups at the front, with at most so many bytes before its last, and how many bytes it takes
unfoldable pub read_groups : ℕ → Bool → List ℕ → Result (ℕ × ℕ) Bad
read_groups more alone [] = Err Ends
read_groups zero alone (b ∷ bs) = if nat_lt b 128 then last_group alone b else Err LongNumber
read_groups (suc more) alone (b ∷ bs) = if nat_lt b 128 then last_group alone b else with_group b (read_groups more false bs)

-- a number below the limit
abbrev pub read_number : ℕ → ℕ → List ℕ → Result (ℕ × ℕ) Bad
read_number more limit bs = read_groups more true bs >>= λ x. if nat_lt x.0 limit then Ok x else Err TooGreat

-- the first so many bytes, or what they are changed to
abbrev pub read_front : {A : Type 0} → (List ℕ → A) → ℕ → List ℕ → Result (A × ℕ) Bad
read_front f n bs = if nat_lt (length bs) n then Err Ends else Ok (f (take n bs), n)

-- a whole number with its sign
abbrev pub signed_of : Width → List ℕ → ℤ
signed_of w bs = cast_signed w (from_be_bytes w bs)

-- so many bytes that are a text
abbrev pub read_utf8 : ℕ → List ℕ → Result (List ℕ × ℕ) Bad
read_utf8 n bs = read_front (λ front. front) n bs >>= λ x. if is_utf8 x.0 then Ok x else Err NotUtf8

-- the value of the part that stands at the front, and how many bytes it takes, or what is wrong there
unfoldable pub read : (p : Part) → List ℕ → Result (Value p × ℕ) Bad
read byte [] = Err Ends
read byte (b ∷ bs) = Ok (b, 1)
read int32 bs = read_front (signed_of w32) 4 bs
read int64 bs = read_front (signed_of w64) 8 bs
read vint bs = read_number 4 (2 ^ 32) bs
read num bs = read_number 4 (2 ^ 31) bs
read vlong bs = read_number 8 (2 ^ 63) bs
read (bytes n) bs = read_front (λ front. front) n bs
read text bs = read_number 4 (2 ^ 31) bs >>= λ n. read_utf8 n.0 (drop n.1 bs) >>= λ x. Ok (x.0, n.1 + x.1)

-- the same at a place, which moves past it
abbrev pub read_part : (p : Part) → Cursor → Result (Value p × Cursor) Bad
read_part p c = read p c.rest >>= λ x. Ok (x.0, moved x.1 c)
