-- Counts of steps.
use Rattle.std.proofs.Common.{◌≡◌, ℕ, zero, suc, add-one, ◌+◌, ◌≤◌, refl, sym, ap, ◌∙◌, arith}
use Rattle.std.specs.Prelude.{min}
use Rattle.lu_prims.specs.Steps.{ticked}

-- one step more
pub ticked-next : (n count : ℕ) → min (ticked n count + 1) 18446744073709551615 ≡ ticked (n + 1) count
ticked-next zero count = ap (λ (k : ℕ). ticked k count) (let e : suc zero ≡ zero + 1 = omega arith in e)
ticked-next (suc n) count =
    let later = ticked-next n (min (count + 1) 18446744073709551615) in
    later ∙ ap (λ (k : ℕ). ticked k (min (count + 1) 18446744073709551615)) (add-one n) ∙ ap (λ (k : ℕ). ticked k count) (sym (add-one (suc n)))

-- some steps, and then others
pub ticked-ticked : (m n count : ℕ) → ticked m (ticked n count) ≡ ticked (n + m) count
ticked-ticked m zero count = ap (λ (k : ℕ). ticked k count) (let e : m ≡ zero + m = omega arith in e)
ticked-ticked m (suc n) count = ticked-ticked m n (min (count + 1) 18446744073709551615) ∙ ap (λ (k : ℕ). ticked k count) (let e : suc (n + m) ≡ suc n + m = omega arith in e)

-- no more than were taken are shown
pub ticked-le : (n count : ℕ) → ticked n count ≤ count + n
ticked-le zero count = omega arith
ticked-le (suc n) count = let later = ticked-le n (min (count + 1) 18446744073709551615) in omega (arith, later)
