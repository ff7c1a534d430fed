-- Numbers in groups of seven bits: what is read is spelled so, and what is spelled so is read.
use Rattle.std.proofs.Common.{◌≡◌, ℕ, zero, suc, ◌+◌, ◌-◌, ◌*◌, ◌/◌, ◌%◌, ◌^◌, ◌<◌, ◌≤◌, Bool, true, false, cond, not, eqb, ltb, leb, List, [], ◌∷◌, ◌++◌, length, get_or, take, drop, Option, Some, None, Result, Ok, Err, refl, sym, ap, ◌∙◌, arith, inl, inr}
use Rattle.std.specs.Prelude.{MatchResult, ◌&&◌, ◌||◌}
use Rattle.std.specs.Option.{option_map}
use Rattle.std.proofs.lemmas.Bool.{cases_lt, le-ltb, lt-ltb, cases_Bool, lt-leb, le-leb, eqb-false, ne_eqb}
use Rattle.std.proofs.Math.Nat.{pow-suc, div-add-mod}
use Rattle.lu_grammar.specs.declared.bad.Bad.{Bad}
use Rattle.lu_grammar.specs.declared.bad.Bad.TheVariants.{Ends, LongNumber, TooGreat}
use Rattle.lu_grammar.specs.Bytes.{IsBytes}
use Rattle.lu_grammar.specs.Parts.{groups, first_low, bad_last, bad_number}
use Rattle.lu_grammar.specs.Reading.{◌>>=◌, last_group, with_group, read_groups, read_number}

-- a 0 stands only alone
abbrev pub MayBeLast : Bool → ℕ → Type 0
MayBeLast alone n = alone ≡ false → 0 < n

last-read : (alone : Bool) (n : ℕ) → MayBeLast alone n → last_group alone n ≡ Ok (n, 1)
last-read true n h = refl
last-read false n h = let e : eqb n 0 ≡ false = ne_eqb n 0 (λ z. let p : 0 < n = h refl in omega arith) in rw e refl

-- what is spelled is read, whatever follows
pub read_groups-groups : (more : ℕ) (alone : Bool) (n : ℕ) (rest : List ℕ) → n < 128 ^ suc more → MayBeLast alone n → read_groups more alone (groups more n ++ rest) ≡ Ok (n, length (groups more n))
unfolding groups read_groups
read_groups-groups zero alone n rest lt h =
    let below : ltb n 128 ≡ true = lt-ltb n 128 (omega arith) in
    rw below (last-read alone n h)
read_groups-groups (suc more) alone n rest lt h =
    elim (cases_lt n 128) [
      | inl low ↦ let below : ltb n 128 ≡ true = lt-ltb n 128 low in rw (below, below) (last-read alone n h)
      | inr high ↦
          let above : ltb n 128 ≡ false = le-ltb n 128 high in
          let wide : ltb (128 + n % 128) 128 ≡ false = le-ltb (128 + n % 128) 128 (omega arith) in
          let less : n / 128 < 128 ^ suc more = omega (arith, pow-suc 128 (suc more)) in
          let again = read_groups-groups more false (n / 128) rest less (λ e. omega arith) in
          rw (above, wide, again) (ap (λ (m : ℕ). Ok (m, suc (length (groups more (n / 128))))) (omega (arith, div-add-mod n 128)))
    ]

-- what is read of a number: it is spelled so, has no needless 0, and is the only thing that may be wrong with it
pub record IsNumber (more : ℕ) (alone : Bool) (bs : List ℕ) (n taken : ℕ) : Type 0 where
  pub front : bs ≡ groups more n ++ drop taken bs
  pub below : n < 128 ^ suc more
  pub last : MayBeLast alone n

-- what is wrong with a number of at most so many bytes, which may stand behind others
abbrev pub bad_place : Bool → ℕ → List ℕ → Option ℕ → Bad
bad_place alone most bs None = cond (leb most (length bs)) LongNumber Ends
bad_place alone most bs (Some k) = cond ((ltb 0 k || not alone) && eqb (get_or bs k 0) 0) LongNumber TooGreat

unfoldable pub bad_groups : Bool → ℕ → List ℕ → Bad
bad_groups alone most bs = bad_place alone most bs (first_low (take most bs))

leb-suc : (m n : ℕ) → leb (suc m) (suc n) ≡ leb m n
leb-suc m n = elim (cases_lt n m) [
  | inl lt ↦ let a : leb (suc m) (suc n) ≡ false = lt-leb (suc m) (suc n) (omega arith) in let b : leb m n ≡ false = lt-leb m n lt in a ∙ sym b
  | inr le ↦ let a : leb (suc m) (suc n) ≡ true = le-leb (suc m) (suc n) (omega arith) in let b : leb m n ≡ true = le-leb m n le in a ∙ sym b
]

or-true : (t : Bool) → true ≡ (t || true)
or-true true = refl
or-true false = refl

or-false : (t : Bool) → (t || false) ≡ t
or-false true = refl
or-false false = refl

-- behind a byte with the high bit the same is wrong
bad_place-step : (alone : Bool) (most b : ℕ) (bs : List ℕ) (o : Option ℕ) → bad_place alone (suc most) (b ∷ bs) (option_map suc o) ≡ bad_place false most bs o
bad_place-step alone most b bs None = ap (λ (t : Bool). cond t LongNumber Ends) (leb-suc most (length bs))
bad_place-step alone most b bs (Some k) =
    let first : ltb 0 (suc k) ≡ true = lt-ltb 0 (suc k) (omega arith) in
    rw first (ap (λ (t : Bool). cond (t && eqb (get_or bs k 0) 0) LongNumber TooGreat) (or-true (ltb 0 k)))

bad_groups-step : (alone : Bool) (most b : ℕ) (bs : List ℕ) → 128 ≤ b → bad_groups alone (suc most) (b ∷ bs) ≡ bad_groups false most bs
unfolding bad_groups first_low
bad_groups-step alone most b bs h =
    let above : ltb b 128 ≡ false = le-ltb b 128 h in
    rw above (bad_place-step alone most b bs (first_low (take most bs)))

bad_groups-last : (alone : Bool) (most b : ℕ) (bs : List ℕ) → b < 128 → bad_groups alone (suc most) (b ∷ bs) ≡ cond (not alone && eqb b 0) LongNumber TooGreat
unfolding bad_groups first_low
bad_groups-last alone most b bs h =
    let below : ltb b 128 ≡ true = lt-ltb b 128 h in
    rw below refl

-- where nothing is left, and where no further byte may come
bad_groups-nil : (alone : Bool) (more : ℕ) → bad_groups alone (suc more) [] ≡ Ends
unfolding bad_groups first_low
bad_groups-nil alone more = let none : leb (suc more) 0 ≡ false = lt-leb (suc more) 0 (omega arith) in rw none refl

bad_groups-none : (bs : List ℕ) → bad_groups false 0 bs ≡ LongNumber
unfolding bad_groups first_low
bad_groups-none bs = let le : leb 0 (length bs) ≡ true = le-leb 0 (length bs) (omega arith) in rw le refl

-- what was read is spelled so, and what was not is wrong by the page
abbrev pub Judges : ℕ → Bool → List ℕ → Result (ℕ × ℕ) Bad → Type 0
Judges more alone bs r = MatchResult r (λ x. IsNumber more alone bs x.0 x.1 × (bad_groups alone (suc more) bs ≡ TooGreat)) (λ e. e ≡ bad_groups alone (suc more) bs)

spelled-last : (more b : ℕ) (bs : List ℕ) → b < 128 → b ∷ bs ≡ groups more b ++ bs
unfolding groups
spelled-last zero b bs low = refl
spelled-last (suc more) b bs low = let below : ltb b 128 ≡ true = lt-ltb b 128 low in rw below refl

pow-positive : (more : ℕ) → 0 < 128 ^ more
pow-positive zero = omega arith
pow-positive (suc more) = omega (arith, pow-suc 128 more, pow-positive more)

last-below : (more b : ℕ) → b < 128 → b < 128 ^ suc more
last-below more b low = let p : 0 < 128 ^ more = pow-positive more in omega (arith, pow-suc 128 more)

not_zero : (alone : Bool) (b : ℕ) → (not alone && eqb b 0) ≡ false → MayBeLast alone b
not_zero true b e h = absurd cc
not_zero false b e h = let ne : b ≡ 0 → ⊥ = eqb-false b 0 e in omega arith

last-judges : (more : ℕ) (alone : Bool) (b : ℕ) (bs : List ℕ) → b < 128 → Judges more alone (b ∷ bs) (last_group alone b)
last-judges more alone b bs low =
    elim (cases_Bool (not alone && eqb b 0)) [
      | inl bad ↦ rw bad (let e : bad_groups alone (suc more) (b ∷ bs) ≡ LongNumber = rw (bad_groups-last alone more b bs low, bad) refl in sym e)
      | inr good ↦ rw good (record { front = spelled-last more b bs low; below = last-below more b low; last = not_zero alone b good }, rw (bad_groups-last alone more b bs low, good) refl)
    ]

step-front : (more b : ℕ) (bs : List ℕ) (n taken : ℕ) → 128 ≤ b → b < 256 → IsNumber more false bs n taken → b ∷ bs ≡ groups (suc more) (b - 128 + 128 * n) ++ drop taken bs
unfolding groups
step-front more b bs n taken high fits number =
    let positive : 0 < n = number.last refl in
    let above : ltb (b - 128 + 128 * n) 128 ≡ false = le-ltb (b - 128 + 128 * n) 128 (omega arith) in
    let low : (b - 128 + 128 * n) % 128 ≡ b - 128 = omega (arith, div-add-mod (b - 128 + 128 * n) 128) in
    let up : (b - 128 + 128 * n) / 128 ≡ n = omega (arith, div-add-mod (b - 128 + 128 * n) 128) in
    let head : 128 + (b - 128) ≡ b = omega arith in
    rw (above, low, up, head) (ap (λ (t : List ℕ). b ∷ t) number.front)

step-judges : (more : ℕ) (alone : Bool) (b : ℕ) (bs : List ℕ) (r : Result (ℕ × ℕ) Bad) → 128 ≤ b → b < 256 → Judges more false bs r → Judges (suc more) alone (b ∷ bs) (with_group b r)
step-judges more alone b bs (Ok x) high fits (number, bad) =
    (record { front = step-front more b bs x.0 x.1 high fits number; below = omega (arith, number.below, pow-suc 128 (suc more)); last = λ e. omega (arith, number.last refl) }, bad_groups-step alone (suc more) b bs high ∙ bad)
step-judges more alone b bs (Err e) high fits bad = bad ∙ sym (bad_groups-step alone (suc more) b bs high)

IsBytes-rest : (b : ℕ) (bs : List ℕ) → IsBytes (b ∷ bs) → IsBytes bs
IsBytes-rest b bs h i = h (suc i)

pub read_groups-judges : (more : ℕ) (alone : Bool) (bs : List ℕ) → IsBytes bs → Judges more alone bs (read_groups more alone bs)
unfolding read_groups
read_groups-judges more alone [] fits = sym (bad_groups-nil alone more)
read_groups-judges zero alone (b ∷ bs) fits =
    elim (cases_lt b 128) [
      | inl low ↦ let below : ltb b 128 ≡ true = lt-ltb b 128 low in rw below (last-judges zero alone b bs low)
      | inr high ↦ let above : ltb b 128 ≡ false = le-ltb b 128 high in rw above (let e : bad_groups alone 1 (b ∷ bs) ≡ LongNumber = bad_groups-step alone 0 b bs high ∙ bad_groups-none bs in sym e)
    ]
read_groups-judges (suc more) alone (b ∷ bs) fits =
    elim (cases_lt b 128) [
      | inl low ↦ let below : ltb b 128 ≡ true = lt-ltb b 128 low in rw below (last-judges (suc more) alone b bs low)
      | inr high ↦ let above : ltb b 128 ≡ false = le-ltb b 128 high in rw above (step-judges more alone b bs (read_groups more false bs) high (fits 0) (read_groups-judges more false bs (IsBytes-rest b bs fits)))
    ]

-- at the front of a file, what is wrong by the page
bad_number-groups : (most : ℕ) (bs : List ℕ) → bad_groups true most bs ≡ bad_number most bs
unfolding bad_groups
bad_number-groups most bs = same (first_low (take most bs))
  where
    same : (o : Option ℕ) → bad_place true most bs o ≡ bad_last most bs o
    same None = refl
    same (Some k) = ap (λ (t : Bool). cond (t && eqb (get_or bs k 0) 0) LongNumber TooGreat) (or-false (ltb 0 k))

-- a number below the limit is read as the number that is spelled, or is wrong as the page says
pub read_number-spelled : (more limit : ℕ) (n : ℕ) (rest : List ℕ) → limit ≤ 128 ^ suc more → n < limit → read_number more limit (groups more n ++ rest) ≡ Ok (n, length (groups more n))
read_number-spelled more limit n rest fits lt =
    let below : ltb n limit ≡ true = lt-ltb n limit lt in
    rw (read_groups-groups more true n rest (omega arith) (λ e. absurd cc), below) refl

-- what a number that was read says
pub record TakesNumber (more limit : ℕ) (bs : List ℕ) (n taken : ℕ) : Type 0 where
  pub front : bs ≡ groups more n ++ drop taken bs
  pub below : n < limit

pub read_number-judges : (more limit : ℕ) (bs : List ℕ) → IsBytes bs → MatchResult (read_number more limit bs) (λ x. TakesNumber more limit bs x.0 x.1) (λ e. e ≡ bad_number (suc more) bs)
read_number-judges more limit bs fits = judged (read_groups more true bs) (read_groups-judges more true bs fits)
  where
    judged : (r : Result (ℕ × ℕ) Bad) → Judges more true bs r → MatchResult (r >>= λ x. cond (ltb x.0 limit) (Ok x) (Err TooGreat)) (λ x. TakesNumber more limit bs x.0 x.1) (λ e. e ≡ bad_number (suc more) bs)
    judged (Err e) h = h ∙ bad_number-groups (suc more) bs
    judged (Ok x) h = elim (cases_lt x.0 limit) [
      | inl lt ↦ let below : ltb x.0 limit ≡ true = lt-ltb x.0 limit lt in rw below (record { front = h.0.front; below = lt })
      | inr le ↦ let above : ltb x.0 limit ≡ false = le-ltb x.0 limit le in rw above (sym h.1 ∙ bad_number-groups (suc more) bs)
    ]
