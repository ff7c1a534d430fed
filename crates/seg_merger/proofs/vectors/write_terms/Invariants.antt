use Rattle.std.proofs.Common.{length}
use Rattle.seg_merger.proofs.VectorLemmas.{AreTermsLeft}
use Rattle.seg_merger.proofs.vectors.write_terms.Given as goal

abbrev pub invariant-loop-writer : goal.invariant-loop-writer
invariant-loop-writer l = AreTermsLeft l.fn.writer l.writer l.fn.terms.left l.terms.left

abbrev pub decreases-loop-writer : goal.decreases-loop-writer
decreases-loop-writer l = length l.terms.left
