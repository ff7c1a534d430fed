use Rattle.std.proofs.Common.{◌≡◌, ◌+◌, length}
use Rattle.seg_merger.proofs.stored.value_count.Given as goal

abbrev pub invariant-loop-value : goal.invariant-loop-value
invariant-loop-value l = l.count + length l.values ≡ length l.fn.values

abbrev pub decreases-loop-value : goal.decreases-loop-value
decreases-loop-value l = length l.values
