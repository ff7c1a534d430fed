-- The least number above others.
use Rattle.std.proofs.Common.{◌≡◌, ℕ, zero, suc, ◌+◌, ◌<◌, ◌≤◌, max, Bool, true, false, cond, List, [], ◌∷◌, length, Option, Some, None, Contains, refl, sym, ap, arith}
use Rattle.std.specs.Prelude.{nat_lt}
use Rattle.std.proofs.lemmas.Bool.Decides.{nat_tests}
use Rattle.lu_folder.specs.Numbers.{above, if_below}

pub above-least : (least : ℕ) (numbers : List ℕ) → least ≤ above least numbers
above-least least [] = omega arith
above-least least (x ∷ xs) = let more : max least (x + 1) ≤ above (max least (x + 1)) xs = above-least (max least (x + 1)) xs in omega arith

pub above-each : (least : ℕ) (numbers : List ℕ) (n : ℕ) → Contains numbers n → n < above least numbers
above-each least [] n (k, within, is) = absurd (omega arith)
above-each least (x ∷ xs) n (zero, within, is) = let more : max least (x + 1) ≤ above (max least (x + 1)) xs = above-least (max least (x + 1)) xs in let same : x ≡ n = is in omega arith
above-each least (x ∷ xs) n (suc k, within, is) = above-each (max least (x + 1)) xs n (k, omega arith, is)

-- any number that is so is at least as great
pub above-most : (least : ℕ) (numbers : List ℕ) (bound : ℕ) → least ≤ bound → ((n : ℕ) → Contains numbers n → n < bound) → above least numbers ≤ bound
above-most least [] bound le each = le
above-most least (x ∷ xs) bound le each =
    let head : x < bound = each x (0, omega arith, refl) in
    above-most (max least (x + 1)) xs bound (omega arith) (λ n among. each n (suc among.0, omega (arith, among.1), among.2))

-- a number that is below the limit
pub record IsBelow (limit number n : ℕ) : Type 0 where
  pub same : n ≡ number
  pub less : number < limit

pub below-is : (limit number n : ℕ) → if_below limit number ≡ Some n → IsBelow limit number n
below-is limit number n is = by_test (nat_lt number limit) refl is
  where
    by_test : (t : Bool) → nat_lt number limit ≡ t → cond t (Some number) None ≡ Some n → IsBelow limit number n
    by_test true less some = record { same = cc; less = grind (arith, nat_tests) }
    by_test false more none = absurd (cc)
