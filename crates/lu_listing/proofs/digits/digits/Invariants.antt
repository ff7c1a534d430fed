use Rattle.std.proofs.Common.{◌≡◌, ◌+◌, length}
use Rattle.std.specs.Fmt.{decimal}
use Rattle.lu_listing.proofs.digits.digits.Given as goal

-- what is left of the number has as many digits as are not counted yet, and one more
abbrev pub invariant-loop-rest : goal.invariant-loop-rest
invariant-loop-rest l = l.count + length (decimal l.rest) ≡ length (decimal l.number) + 1

abbrev pub decreases-loop-rest : goal.decreases-loop-rest
decreases-loop-rest l = l.rest
