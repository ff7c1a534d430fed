use Rattle.std.proofs.Common.{◌≡◌, false, take}
use Rattle.check_index.specs.Vectors.{have_vectors}
use Rattle.check_index.proofs.vectors.have_vectors.Given as goal

abbrev pub invariant-loop-number : goal.invariant-loop-number
invariant-loop-number l = have_vectors (take l.number l.fields) ≡ false
