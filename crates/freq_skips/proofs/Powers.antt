-- Powers of the skip interval, and quotients by it.
use Rattle.std.proofs.Common.{◌≡◌, ◌≢◌, ℕ, zero, suc, add-one, ◌+◌, ◌-◌, ◌*◌, ◌/◌, ◌%◌, ◌^◌, ◌<◌, ◌≤◌, ◌⊎◌, inl, inr, true, false, refl, sym, ap, subst, ◌∙◌, arith}
use Rattle.std.specs.Prelude.{nat_le}
use Rattle.std.proofs.lemmas.Bool.{cases_eq, cases_lt}
use Rattle.std.proofs.lemmas.Bool.Decides.{nat_tests}
use Rattle.std.proofs.lemmas.Nat.{div-add-mod', pow-add}
use Rattle.std.proofs.Math.Nat.{pow-le-pow_right, pow-le-pow_left, pow-suc, one-le-pow, div-eq_of_lt-le, div-div-eq-div-mul, le-div_iff_mul-le, div-mul-le_self, div-lt_iff_lt-mul, mod-lt, mul-le-mul_left, mul_comm, mul_assoc, mul-mod_left, eq_of_mul-eq-mul_right}
use Rattle.freq_skips.specs.Levels.{greatest_power}

if_low : (base n k : ℕ) → base ^ suc k ≤ n → greatest_power base n (suc k) ≡ suc k
unfolding greatest_power
if_low base n k le = let e : nat_le (base ^ suc k) n ≡ true = grind (arith, nat_tests) in rw e refl

if_high : (base n k : ℕ) → n < base ^ suc k → greatest_power base n (suc k) ≡ greatest_power base n k
unfolding greatest_power
if_high base n k lt = let e : nat_le (base ^ suc k) n ≡ false = grind (arith, nat_tests) in rw e refl

-- the power up to which all are low, and from which on all are high
pub greatest_power-is : (base n most count : ℕ) → 0 < base → count ≤ most → ((count ≡ 0) ⊎ (base ^ count ≤ n)) → ((count ≡ most) ⊎ (n < base ^ suc count)) → greatest_power base n most ≡ count
unfolding greatest_power
greatest_power-is base n zero count pos le low high = omega arith
greatest_power-is base n (suc k) count pos le low high = elim (cases_eq count (suc k)) [
  | inl e ↦ elim low [
    | inl none ↦ absurd (omega arith)
    | inr lo ↦ if_low base n k (subst (λ (c : ℕ). base ^ c ≤ n) e lo) ∙ sym e
  ]
  | inr ne ↦ elim high [
    | inl e ↦ absurd (ne e)
    | inr hi ↦
        let up : base ^ suc count ≤ base ^ suc k = pow-le-pow_right pos (omega arith) in
        if_high base n k (omega arith) ∙ greatest_power-is base n k count pos (omega arith) low (inr hi)
  ]
]

-- the next quotient is one more only at a multiple
pub quotient-next : (k s : ℕ) → 0 < s → (k + 1) % s ≡ 0 → suc k / s ≡ k / s + 1
quotient-next k s pos e = go ((k + 1) / s) refl (div-add-mod' (k + 1) s)
  where
    go : (q : ℕ) → (k + 1) / s ≡ q → (k + 1) / s * s + (k + 1) % s ≡ k + 1 → suc k / s ≡ k / s + 1
    go zero is all = let z : (k + 1) / s * s ≡ zero * s = ap (λ (n : ℕ). n * s) is in absurd (omega arith)
    go (suc p) is all =
        let z : (k + 1) / s * s ≡ suc p * s = ap (λ (n : ℕ). n * s) is in
        let below : k / s ≡ p = div-eq_of_lt-le s (omega arith) (omega arith) in
        ap (λ (n : ℕ). n / s) (sym (add-one k)) ∙ is ∙ (omega arith)

pub quotient-same : (k s : ℕ) → 0 < s → (k + 1) % s ≢ 0 → suc k / s ≡ k / s
quotient-same k s pos ne = go ((k + 1) / s) refl (div-add-mod' (k + 1) s) (mod-lt (k + 1) pos)
  where
    go : (q : ℕ) → (k + 1) / s ≡ q → (k + 1) / s * s + (k + 1) % s ≡ k + 1 → (k + 1) % s < s → suc k / s ≡ k / s
    go q is all lt =
        let z : (k + 1) / s * s ≡ q * s = ap (λ (n : ℕ). n * s) is in
        let here : k / s ≡ q = div-eq_of_lt-le s (omega arith) (omega arith) in
        ap (λ (n : ℕ). n / s) (sym (add-one k)) ∙ is ∙ sym here

-- where the next number is a multiple of s, and is not above D, its quotient is not above that of D
pub quotient-below : (k s D : ℕ) → 0 < s → (k + 1) % s ≡ 0 → k < D → k / s < D / s
quotient-below k s D pos e lt =
    let next = quotient-next k s pos e in
    let whole = div-mul-le_self (suc k) s in
    let step = ap (λ (n : ℕ). n * s) next in
    let up : (k / s + 1) * s ≤ D = omega arith in
    let le : k / s + 1 ≤ D / s = (le-div_iff_mul-le pos).1 up in
    omega arith

-- a power above the quotient is, with one factor more, above the number
pub power-high : (base n count power : ℕ) → 0 < base → power ≡ base ^ count → n / base < power → n < base ^ suc count
power-high base n count power pos is lt =
    let up = (div-lt_iff_lt-mul pos).0 lt in
    subst (λ (k : ℕ). n < k) (ap (λ (p : ℕ). p * base) is ∙ sym (pow-suc base count)) up

pub power-low : (base n count power : ℕ) → power ≡ base ^ count → (count ≡ 0) ⊎ (power ≤ n) → (count ≡ 0) ⊎ (base ^ count ≤ n)
power-low base n count power is low = subst (λ (p : ℕ). (count ≡ 0) ⊎ (p ≤ n)) is low

pub power-pos : (base n : ℕ) → 2 ≤ base → 0 < base ^ n
power-pos base n two = one-le-pow n base (omega arith)

-- the next multiple of a stride is above all that were passed
pub stride-next : (passed n stride index : ℕ) → 0 < stride → index ≡ suc passed * stride - 1 → n ≤ passed * stride → n ≤ index
stride-next passed n stride index pos is le = omega arith

pub stride-passed : (passed n stride index : ℕ) → index ≡ suc passed * stride - 1 → n ≡ index → n ≤ suc passed * stride
stride-passed passed n stride index is same = omega arith

-- a stride is at least 2
pub stride-two : (base n : ℕ) → 2 ≤ base → 2 ≤ base ^ suc n
stride-two base n two =
    let one = power-pos base n two in
    let up : base * 1 ≤ base ^ n * base = subst (λ (k : ℕ). base * 1 ≤ k) (mul_comm base (base ^ n)) (mul-le-mul_left base one) in
    subst (λ (k : ℕ). 2 ≤ k) (sym (pow-suc base n)) (omega arith)

-- powers at most a number of 32 bits are few
pub power-few : (base count n : ℕ) → 2 ≤ base → (count ≡ 0) ⊎ (base ^ count ≤ n) → n < 2 ^ 32 → count < 32
power-few base count n two low small = elim (cases_lt count 32) [
  | inl lt ↦ lt
  | inr ge ↦ elim low [
    | inl none ↦ omega arith
    | inr le ↦
        let one : 2 ^ count ≤ base ^ count = pow-le-pow_left two count in
        let more : 2 ^ 32 ≤ 2 ^ count = pow-le-pow_right (omega arith) ge in
        absurd (omega arith)
  ]
]

-- the power of the greatest is not above the number
pub greatest_power-low : (base n most m : ℕ) → greatest_power base n most ≡ suc m → base ^ suc m ≤ n
unfolding greatest_power
greatest_power-low base n zero m e = absurd (omega arith)
greatest_power-low base n (suc k) m e = elim (cases_lt n (base ^ suc k)) [
  | inl gt ↦ greatest_power-low base n k m (sym (if_high base n k gt) ∙ e)
  | inr le ↦ let same : suc k ≡ suc m = sym (if_low base n k le) ∙ e in subst (λ (j : ℕ). base ^ j ≤ n) same le
]

-- the next quotients: by one factor more
pub quotient-factor : (p s S : ℕ) → p / (S * s) ≡ p / S / s
quotient-factor p s S = sym (div-div-eq-div-mul p S s)

pub quotient-half : (p S : ℕ) → 2 ≤ S → p < 2 ^ 32 → p / S < 2 ^ 31
quotient-half p S two small =
    let pos : 0 < S = omega arith in
    (div-lt_iff_lt-mul pos).1 (let m : 2 ^ 31 * 2 ≤ 2 ^ 31 * S = mul-le-mul_left (2 ^ 31) two in omega arith)

-- at a multiple the quotient, and one more, are what they are to be
pub multiple-next : (before S : ℕ) → 0 < S → (before + 1) % S ≡ 0 → (before + 1) / S ≡ before / S + 1
multiple-next before S pos e = ap (λ (n : ℕ). n / S) (add-one before) ∙ quotient-next before S pos e

pub multiple-index : (before S count : ℕ) → 0 < S → (before + 1) % S ≡ 0 → count ≡ before / S → suc count * S - 1 ≡ before + 1 - 1
multiple-index before S count pos e is =
    let next = multiple-next before S pos e in
    let same : suc count ≡ (before + 1) / S = omega arith in
    let product = ap (λ (n : ℕ). n * S) same in
    omega (arith, div-add-mod' (before + 1) S, product)

-- what divides one power more, and what divides none of the higher
pub divides-next : (q s P p : ℕ) → q * P ≡ p → q % s ≡ 0 → q / s * (P * s) ≡ p
divides-next q s P p is e =
    let whole : q / s * s ≡ q = omega (arith, div-add-mod' q s) in
    ap (λ (x : ℕ). q / s * x) (mul_comm P s) ∙ sym (mul_assoc (q / s) s P) ∙ ap (λ (x : ℕ). x * P) whole ∙ is

pub divides-power : (q s p level : ℕ) → q * s ^ level ≡ p → q % s ≡ 0 → p % s ^ suc level ≡ 0
divides-power q s p level is e =
    let P = s ^ level in
    let next = divides-next q s P p is e in
    ap (λ (x : ℕ). x % s ^ suc level) (sym next) ∙ ap (λ (x : ℕ). q / s * x % s ^ suc level) (sym (pow-suc s level)) ∙ mul-mod_left (q / s) (s ^ suc level)

pub divides-not : (q s p level n : ℕ) → 2 ≤ s → q * s ^ level ≡ p → q % s ≢ 0 → level ≤ n → p % s ^ suc n ≢ 0
divides-not q s p level n two is ne le e =
    let P = s ^ level in
    let S = s ^ suc n in
    let whole : p / S * S ≡ p = omega (arith, div-add-mod' p S) in
    let split : S ≡ s ^ (n - level) * (P * s) = ap (λ (k : ℕ). s ^ k) (let k : suc n ≡ (n - level) + suc level = omega arith in k) ∙ pow-add s (n - level) (suc level) ∙ ap (λ (x : ℕ). s ^ (n - level) * x) (pow-suc s level) in
    let k = p / S * s ^ (n - level) in
    let many : k * s * P ≡ q * P =
    mul_assoc k s P ∙ ap (λ (x : ℕ). k * x) (mul_comm s P) ∙ mul_assoc (p / S) (s ^ (n - level)) (P * s) ∙ ap (λ (x : ℕ). p / S * x) (sym split) ∙ whole ∙ sym is in
    let same : k * s ≡ q = eq_of_mul-eq-mul_right P (power-pos s level two) (k * s) q many in
    ne (ap (λ (x : ℕ). x % s) (sym same) ∙ mul-mod_left k s)
