use Rattle.std.proofs.Common.{◌≡◌, length}
use Rattle.seg_merger.proofs.VectorLemmas.{ArePositionsLeft}
use Rattle.seg_merger.proofs.vectors.write_positions.Given as goal

abbrev pub invariant-loop-position : goal.invariant-loop-position
invariant-loop-position l = ArePositionsLeft l.fn.writer l.writer l.fn.terms.positions l.terms.positions × (l.terms ≡ record l.fn.terms { positions = l.terms.positions })

abbrev pub decreases-loop-position : goal.decreases-loop-position
decreases-loop-position l = length l.terms.positions
