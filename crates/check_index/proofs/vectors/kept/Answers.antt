use Rattle.std.proofs.Common.{arith}
use Rattle.check_index.proofs.VectorFiles.{none-has}
use Rattle.check_index.proofs.vectors.kept.Goals as goal

pub returns-clause-seen : goal.returns-clause-seen
returns-clause-seen c = none-has c.args.size c.args.view c.requires (λ i lt. c.loop-number.invariant i (omega (arith, lt, c.loop-number-test.false)))
