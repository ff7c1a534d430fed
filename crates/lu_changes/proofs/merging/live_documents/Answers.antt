use Rattle.std.proofs.Common.{arith}
use Rattle.lu_changes.proofs.MergeLiveLemmas.{live-count}
use Rattle.lu_changes.proofs.merging.live_documents.Goals as goal

pub overflow_sub-result : goal.overflow_sub-result
overflow_sub-result c = omega (arith, live-count c.args.reader.now.index c.size-size.ensures.valid, c.size-size.ensures.size, c.deleted.ensures)

pub returns-clause-live : goal.returns-clause-live
returns-clause-live c = omega (arith, live-count c.args.reader.now.index c.size-size.ensures.valid, c.size-size.ensures.size, c.deleted.ensures)
