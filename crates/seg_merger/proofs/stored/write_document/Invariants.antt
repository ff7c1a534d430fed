use Rattle.std.proofs.Common.{[], get_or, length}
use Rattle.seg_merger.proofs.StoredLemmas.{AreWritten}
use Rattle.seg_merger.proofs.stored.write_document.Given as goal

abbrev pub invariant-loop-value : goal.invariant-loop-value
invariant-loop-value l = AreWritten l.numbers l.fn.writer.finished (get_or l.reader.index.stored l.doc []) l.values l.writer

abbrev pub decreases-loop-value : goal.decreases-loop-value
decreases-loop-value l = length l.values
