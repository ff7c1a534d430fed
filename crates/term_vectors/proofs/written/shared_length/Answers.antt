use Rattle.std.proofs.Common.{arith}
use Rattle.term_vectors.proofs.SharedLemmas.{shared-more, shared-ends, shared-all}
use Rattle.term_vectors.proofs.written.shared_length.Goals as goal

pub returns-then-a-place-clause-value : goal.returns-then-a-place-clause-value
returns-then-a-place-clause-value c = omega (arith, shared-ends c.args.a.now c.args.b.now c.loop-place.place (omega arith) (omega arith) c.if-a-place.true, c.loop-place.invariant)

pub loop-place-preserved : goal.loop-place-preserved
loop-place-preserved c = omega (arith, shared-more c.args.a.now c.args.b.now c.loop-place.place (omega arith) (omega arith) c.if-a-place.false, c.loop-place.invariant)

pub returns-clause-value : goal.returns-clause-value
returns-clause-value c =
    omega (arith, shared-all c.args.a.now c.args.b.now c.loop-place.place (omega arith), c.loop-place.invariant)
