use Rattle.std.proofs.Common.{Result, Err, Some, ap}
use Rattle.lu_dir.specs.Loading.{Loading}
use Rattle.lu_folder.specs.declared.fault.FolderFault.{FolderFault}
use Rattle.lu_reads.proofs.CheckLemmas.{segment-read, segment-refused}
use Rattle.lu_reads.proofs.StopLemmas.{stop-wider, stops-wider}
use Rattle.lu_changes.proofs.deleting.marked_segment.Goals as goal

pub returns-in-Ok-clause-said : goal.returns-in-Ok-clause-said
returns-in-Ok-clause-said g c =
    stops-wider _ _ (λ outcome says. segment-read (g.D.Dir.files c.args.dir.now) c.args.deletion.now.chosen.generation c.args.place c.args.info.now c.in-Ok.loaded.found (Some outcome) c.in-Ok.ensures.loaded c.in-Ok.ensures.each says)
    c.judged_marking.result c.judged_marking.ensures.said

pub returns-in-Err-clause-said : goal.returns-in-Err-clause-said
returns-in-Err-clause-said g c =
    let failed : FolderFault → Result Loading FolderFault = λ fault. Err fault in
    stop-wider _ _ (λ outcome refuses. segment-refused (g.D.Dir.files c.args.dir.now) c.args.deletion.now.chosen.generation c.args.place c.args.info.now c.in-Err.fault outcome
    (λ kind is. c.in-Err.ensures.too_large kind (ap failed is)) (λ is. c.in-Err.ensures.no_index_fault (ap failed is)) (λ other spot is. c.in-Err.ensures.no_standing_fault other spot (ap failed is)) refuses)
    c.stopped_by.result c.stopped_by.ensures.said
