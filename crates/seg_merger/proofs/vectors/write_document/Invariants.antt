use Rattle.std.proofs.Common.{length}
use Rattle.seg_merger.proofs.VectorLemmas.{AreVectorsLeft}
use Rattle.seg_merger.proofs.vectors.write_document.Given as goal

abbrev pub invariant-loop-vector : goal.invariant-loop-vector
invariant-loop-vector l = AreVectorsLeft l.fields.table.now l.fields.numbers.now l.initial.writer l.writer l.vectors l.left

abbrev pub decreases-loop-vector : goal.decreases-loop-vector
decreases-loop-vector l = length l.left
