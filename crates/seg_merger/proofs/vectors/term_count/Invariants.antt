use Rattle.std.proofs.Common.{◌≡◌, ◌+◌, length}
use Rattle.seg_merger.proofs.vectors.term_count.Given as goal

abbrev pub invariant-loop-count : goal.invariant-loop-count
invariant-loop-count l = l.count + length l.terms.left ≡ length l.fn.terms.left

abbrev pub decreases-loop-count : goal.decreases-loop-count
decreases-loop-count l = length l.terms.left
