-- Counts of steps.
use Rattle.std.specs.Prelude.{ℕ, zero, suc, ◌+◌, min}

-- a count after so many steps more; the greatest count that can be shown stays
abbrev pub ticked : ℕ → ℕ → ℕ
ticked zero count = count
ticked (suc n) count = ticked n (min (count + 1) 18446744073709551615)
