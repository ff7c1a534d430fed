-- Binary digits, and counts of steps.
use Rattle.std.proofs.Common.{◌≡◌, ℕ, zero, suc, ◌+◌, ◌/◌, ◌<◌, ◌≤◌, Bool, true, false, eqb, min, refl, sym, ap, ◌∙◌, arith}
use Rattle.std.specs.Prelude.{if◌then◌else◌}
use Rattle.std.proofs.lemmas.Bool.{eqb-true, eqb-false, ne_eqb}
use Rattle.lu_prims.specs.Steps.{ticked}
use Rattle.term_index.specs.Seeking.{halvings, digits}

halvings-zero : (turns : ℕ) → halvings turns 0 ≡ 0
unfolding halvings
halvings-zero zero = refl
halvings-zero (suc turns) = refl

-- turns enough give one answer
halvings-enough : (t u n : ℕ) → n ≤ t → n ≤ u → halvings t n ≡ halvings u n
unfolding halvings
halvings-enough zero u n le lu = let none : n ≡ 0 = omega arith in rw none (sym (halvings-zero u))
halvings-enough (suc t) zero n le lu = let none : n ≡ 0 = omega arith in rw none refl
halvings-enough (suc t) (suc u) n le lu = go (λ some. halvings-enough t u (n / 2) (omega (arith, some, le)) (omega (arith, some, lu))) (eqb n 0) refl
  where
    go : ((n ≡ 0 → ⊥) → halvings t (n / 2) ≡ halvings u (n / 2)) → (b : Bool) → eqb n 0 ≡ b → (if b then 0 else suc (halvings t (n / 2))) ≡ (if b then 0 else suc (halvings u (n / 2)))
    go same true e = refl
    go same false e = ap (λ (k : ℕ). suc k) (same (eqb-false n 0 e))

-- a half has one digit less
pub digits-half : (n : ℕ) → 0 < n → digits n ≡ suc (digits (n / 2))
unfolding halvings
digits-half zero lt = absurd (omega arith)
digits-half (suc n) lt =
    let some : eqb (suc n) 0 ≡ false = ne_eqb _ _ (λ e. omega (arith, e)) in
    rw some (ap (λ (k : ℕ). suc k) (halvings-enough n (suc n / 2) (suc n / 2) (omega arith) (omega arith)))

halvings-below : (t m n : ℕ) → m ≤ n → halvings t m ≤ halvings t n
unfolding halvings
halvings-below zero m n le = omega arith
halvings-below (suc t) m n le = go (halvings-below t (m / 2) (n / 2) (omega (arith, le))) (eqb m 0) (eqb n 0) refl refl
  where
    go : halvings t (m / 2) ≤ halvings t (n / 2) → (a b : Bool) → eqb m 0 ≡ a → eqb n 0 ≡ b → (if a then 0 else suc (halvings t (m / 2))) ≤ (if b then 0 else suc (halvings t (n / 2)))
    go below true b e f = omega arith
    go below false true e f = absurd (omega (arith, eqb-false m 0 e, eqb-true n 0 f, le))
    go below false false e f = omega (arith, below)

-- a greater number has no fewer digits
pub digits-below : (m n : ℕ) → m ≤ n → digits m ≤ digits n
digits-below m n le = omega (arith, halvings-enough m n m (omega arith) le, halvings-below n m n le)
