-- How many digits numbers have.
use Rattle.std.proofs.Common.{◌≡◌, ℕ, ◌+◌, ◌/◌, ◌%◌, ◌^◌, ◌<◌, ◌≤◌, [], ◌∷◌, length, ap, ◌∙◌, length-append, arith}
use Rattle.std.specs.Fmt.{decimal}
use Rattle.std.proofs.lemmas.Fmt.{decimal_digit, decimal_step, length-decimal-le}

-- one more than a tenth of it
digits-tenth : (n : ℕ) → 10 ≤ n → n < 2 ^ 64 → length (decimal n) ≡ length (decimal (n / 10)) + 1
digits-tenth n ten small = ap length (decimal_step n ten small) ∙ length-append (decimal (n / 10)) ((48 + n % 10) ∷ [])

-- two more than a hundredth
pub digits-hundredth : (n : ℕ) → 100 ≤ n → n < 2 ^ 64 → length (decimal n) ≡ length (decimal (n / 100)) + 2
digits-hundredth n hundred small =
    let below : n / 10 / 10 ≡ n / 100 = omega arith in
    omega (arith, digits-tenth n (omega arith) small, digits-tenth (n / 10) (omega arith) (omega arith), ap (λ (m : ℕ). length (decimal m)) below)

-- one below ten
pub digits-one : (n : ℕ) → n < 10 → length (decimal n) ≡ 1
digits-one n few = ap length (decimal_digit n few)

-- two below a hundred
pub digits-two : (n : ℕ) → 10 ≤ n → n < 100 → length (decimal n) ≡ 2
digits-two n ten few = omega (arith, digits-tenth n ten (omega arith), digits-one (n / 10) (omega arith))

-- twenty at most in 64 bits
pub digits-most : (n : ℕ) → n < 2 ^ 64 → length (decimal n) ≤ 20
digits-most n small = length-decimal-le 20 n (omega arith) (omega (arith, small)) small
