use Rattle.std.proofs.Common.{arith}
use Rattle.compound_file.proofs.PackLemmas.{contents_size-left}
use Rattle.compound_file.proofs.packing.size_within.Goals as goal

pub returns-then-part-limit : goal.returns-then-part-limit
returns-then-part-limit c =
    let next = contents_size-left c.args.parts.now c.loop-part.part-index c.part-item.result c.loop-part-test.true c.part-item.is in
    omega (arith, next, c.loop-part.invariant.left, c.loop-part.invariant.within, c.if-part-limit.true)

pub loop-part-preserved : goal.loop-part-preserved
loop-part-preserved c =
    let next = contents_size-left c.args.parts.now c.loop-part.part-index c.part-item.result c.loop-part-test.true c.part-item.is in
    record {
      left = omega (arith, next, c.loop-part.invariant.left);
      within = omega (arith, c.loop-part.invariant.within, c.if-part-limit.false);
    }
