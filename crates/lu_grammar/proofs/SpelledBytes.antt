-- What is spelled is bytes.
use Rattle.std.proofs.Common.{◌≡◌, ℕ, zero, suc, ◌+◌, ◌/◌, ◌%◌, ◌^◌, ◌<◌, ◌≤◌, Bool, true, false, ltb, List, [], ◌∷◌, ◌++◌, length, flat_map, All, cond, ◌&&◌, ◌⊎◌, pow-suc, refl, sym, subst, arith, inl, inr}
use mathlib.Core.Bool.{true≢false}
use Rattle.std.proofs.lemmas.Bool.{cases_lt, lt-ltb, le-ltb}
use Rattle.std.proofs.Math.Utf8.{encode, encodes, next, scalar, scalars, scalar_cases}
use Rattle.lu_grammar.specs.Bytes.{IsBytes}
use Rattle.lu_grammar.specs.Records.{Shape, whole, part, Spells}
use Rattle.std.specs.Int.{w32, w64, to_be_bytes}
use Rattle.std.specs.Str.{IsUtf8}
use Rattle.lu_grammar.specs.Parts.{Part, Value, byte, int32, int64, vint, num, vlong, bytes, text, IsValue, groups, spelling}

pub IsBytes-nil : IsBytes []
IsBytes-nil i = omega arith

pub IsBytes-cons : (b : ℕ) (bs : List ℕ) → b < 256 → IsBytes bs → IsBytes (b ∷ bs)
IsBytes-cons b bs fits rest zero = fits
IsBytes-cons b bs fits rest (suc i) = rest i

pub IsBytes-append : (a b : List ℕ) → IsBytes a → IsBytes b → IsBytes (a ++ b)
IsBytes-append [] b front back i = back i
IsBytes-append (x ∷ a) b front back zero = front zero
IsBytes-append (x ∷ a) b front back (suc i) = IsBytes-append a b (λ j. front (suc j)) back i

pub IsBytes-flat_map : {X : Type 0} (spell : X → List ℕ) (xs : List X) → All (λ x. IsBytes (spell x)) xs → IsBytes (flat_map spell xs)
IsBytes-flat_map spell [] each = IsBytes-nil
IsBytes-flat_map spell (x ∷ xs) each = IsBytes-append (spell x) (flat_map spell xs) (each zero x (omega arith)) (IsBytes-flat_map spell xs (λ k d within. each (suc k) d (omega arith)))

pub IsBytes-groups : (more n : ℕ) → n < 128 ^ suc more → IsBytes (groups more n)
unfolding groups
IsBytes-groups zero n below = IsBytes-cons n [] (omega arith) IsBytes-nil
IsBytes-groups (suc more) n below =
    elim (cases_lt n 128) [
      | inl low ↦ let last : ltb n 128 ≡ true = lt-ltb n 128 low in rw last (IsBytes-cons n [] (omega arith) IsBytes-nil)
      | inr high ↦
          let above : ltb n 128 ≡ false = le-ltb n 128 high in
          rw above (IsBytes-cons (128 + n % 128) (groups more (n / 128)) (omega arith) (IsBytes-groups more (n / 128) (omega (arith, pow-suc 128 (suc more)))))
    ]

next-fits : (n : ℕ) → next n < 256
next-fits n = omega arith

after-first : (b n : ℕ) (bs : List ℕ) → b < 256 → IsBytes bs → IsBytes (b ∷ next n ∷ bs)
after-first b n bs fits rest = IsBytes-cons b (next n ∷ bs) fits (IsBytes-cons (next n) bs (next-fits n) rest)

IsBytes-encode : (c : ℕ) → c < 1114112 → IsBytes (encode c)
unfolding encode
IsBytes-encode c fits =
    elim (cases_lt c 128) [
      | inl one ↦ let e : ltb c 128 ≡ true = lt-ltb c 128 one in rw e (IsBytes-cons c [] (omega arith) IsBytes-nil)
      | inr over ↦ let e : ltb c 128 ≡ false = le-ltb c 128 over in rw e (longer (cases_lt c 2048))
    ]
  where
    long : (c < 65536) ⊎ (65536 ≤ c) → IsBytes (cond (ltb c 65536) ((224 + c / 4096) ∷ next (c / 64) ∷ next c ∷ []) ((240 + c / 262144) ∷ next (c / 4096) ∷ next (c / 64) ∷ next c ∷ []))
    long (inl three) = let g : ltb c 65536 ≡ true = lt-ltb c 65536 three in rw g (after-first (224 + c / 4096) (c / 64) (next c ∷ []) (omega arith) (IsBytes-cons (next c) [] (next-fits c) IsBytes-nil))
    long (inr four) =
        let g : ltb c 65536 ≡ false = le-ltb c 65536 four in
        rw g (after-first (240 + c / 262144) (c / 4096) (next (c / 64) ∷ next c ∷ []) (omega arith) (after-first (next (c / 64)) c [] (next-fits (c / 64)) IsBytes-nil))

    longer : (c < 2048) ⊎ (2048 ≤ c) → IsBytes (cond (ltb c 2048) ((192 + c / 64) ∷ next c ∷ []) (cond (ltb c 65536) ((224 + c / 4096) ∷ next (c / 64) ∷ next c ∷ []) ((240 + c / 262144) ∷ next (c / 4096) ∷ next (c / 64) ∷ next c ∷ [])))
    longer (inl two) = let f : ltb c 2048 ≡ true = lt-ltb c 2048 two in rw f (after-first (192 + c / 64) c [] (omega arith) IsBytes-nil)
    longer (inr more) = let f : ltb c 2048 ≡ false = le-ltb c 2048 more in rw f (long (cases_lt c 65536))

scalar-below : (c : ℕ) → scalar c ≡ true → c < 1114112
scalar-below c is = elim (scalar_cases c is) [
  | inl low ↦ omega arith
  | inr high ↦ high.1
]

both : (b c : Bool) → (b && c) ≡ true → (b ≡ true) × (c ≡ true)
both true c e = (refl, e)
both false c e = absurd (true≢false (sym e))

IsBytes-encodes : (cs : List ℕ) → scalars cs ≡ true → IsBytes (encodes cs)
IsBytes-encodes [] are = IsBytes-nil
IsBytes-encodes (c ∷ cs) are =
    let each = both (scalar c) (scalars cs) are in
    IsBytes-append (encode c) (encodes cs) (IsBytes-encode c (scalar-below c each.0)) (IsBytes-encodes cs each.1)

pub IsBytes-utf8 : (bs : List ℕ) → IsUtf8 bs → IsBytes bs
IsBytes-utf8 bs (cs, (are, spell)) = subst IsBytes spell (IsBytes-encodes cs are)

pub IsBytes-four : (n : ℕ) → IsBytes (to_be_bytes w32 n)
IsBytes-four n zero = omega arith
IsBytes-four n (suc zero) = omega arith
IsBytes-four n (suc (suc zero)) = omega arith
IsBytes-four n (suc (suc (suc zero))) = omega arith
IsBytes-four n (suc (suc (suc (suc i)))) = omega arith

pub IsBytes-eight : (n : ℕ) → IsBytes (to_be_bytes w64 n)
IsBytes-eight n zero = omega arith
IsBytes-eight n (suc zero) = omega arith
IsBytes-eight n (suc (suc zero)) = omega arith
IsBytes-eight n (suc (suc (suc zero))) = omega arith
IsBytes-eight n (suc (suc (suc (suc zero)))) = omega arith
IsBytes-eight n (suc (suc (suc (suc (suc zero))))) = omega arith
IsBytes-eight n (suc (suc (suc (suc (suc (suc zero)))))) = omega arith
IsBytes-eight n (suc (suc (suc (suc (suc (suc (suc zero))))))) = omega arith
IsBytes-eight n (suc (suc (suc (suc (suc (suc (suc (suc i)))))))) = omega arith

-- the spelling of each value of a part is bytes
pub IsBytes-spelling : (p : Part) (v : Value p) → IsValue p v → IsBytes (spelling p v)
IsBytes-spelling byte n fits = IsBytes-cons n [] fits IsBytes-nil
IsBytes-spelling int32 z fits = IsBytes-four _
IsBytes-spelling int64 z fits = IsBytes-eight _
IsBytes-spelling vint n fits = IsBytes-groups 4 n (omega arith)
IsBytes-spelling num n fits = IsBytes-groups 4 n (omega arith)
IsBytes-spelling vlong n fits = IsBytes-groups 8 n (omega arith)
IsBytes-spelling (bytes n) bs fits = fits.1
IsBytes-spelling text bs fits = IsBytes-append (groups 4 (length bs)) bs (IsBytes-groups 4 (length bs) (omega (arith, fits.0))) (IsBytes-utf8 bs fits.1)

-- the spelling of each record of a shape is bytes
pub IsBytes-Spells : {R : Type 0} (shape : Shape R) (r : R) (front : List ℕ) → Spells shape r front → IsBytes front
IsBytes-Spells (whole s) r front (_, is) = subst IsBytes (sym is) IsBytes-nil
IsBytes-Spells (part p next) r front (v, back, fits, is, spells) =
    subst IsBytes (sym is) (IsBytes-append (spelling p v) back (IsBytes-spelling p v fits) (IsBytes-Spells (next v) r back spells))
