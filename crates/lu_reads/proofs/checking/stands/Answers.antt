use Rattle.std.proofs.Common.{arith}
use Rattle.lu_reads.proofs.SegmentLemmas.{deleted-total}
use Rattle.lu_reads.proofs.checking.stands.Goals as goal

pub totals-documents-requires-clause-deleted : goal.totals-documents-requires-clause-deleted
totals-documents-requires-clause-deleted c = omega (arith, deleted-total c.args.segments.now c.requires.lines, c.requires.sizes)
