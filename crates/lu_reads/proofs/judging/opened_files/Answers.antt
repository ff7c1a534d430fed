use Rattle.lu_reads.proofs.OpeningLemmas.{fault-files}
use Rattle.lu_reads.proofs.StopLemmas.{stop-wider}
use Rattle.lu_reads.proofs.judging.opened_files.Goals as goal

pub returns-in-Err-clause-said : goal.returns-in-Err-clause-said
returns-in-Err-clause-said c =
    stop-wider _ _
    (λ outcome is. fault-files c.args.segment.now c.args.fdx.now c.args.fdt.now c.args.fields c.stored_total.result c.in-Err.spot outcome c.stored_total.ensures c.in-Err.ensures.files is)
    c.faulty.result c.faulty.ensures.said
