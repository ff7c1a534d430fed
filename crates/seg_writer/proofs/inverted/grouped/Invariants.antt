use Rattle.std.proofs.Common.{length}
use Rattle.seg_writer.specs.SortedUses.{AreGrouped}
use Rattle.seg_writer.proofs.inverted.grouped.Given as goal

abbrev pub invariant-loop-rest : goal.invariant-loop-rest
invariant-loop-rest l = AreGrouped l.column l.fn.uses l.terms.items l.rest

abbrev pub decreases-loop-rest : goal.decreases-loop-rest
decreases-loop-rest l = length l.rest
