use Rattle.std.proofs.Common.{◌≡◌, take}
use Rattle.check_index.specs.Norms.{count_with_norms}
use Rattle.check_index.proofs.norms.count_norms.Given as goal

abbrev pub invariant-loop-number : goal.invariant-loop-number
invariant-loop-number l = l.count ≡ count_with_norms (take l.number l.fields)
