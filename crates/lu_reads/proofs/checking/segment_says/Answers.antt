use Rattle.std.proofs.Common.{Result, Err, ap}
use Rattle.lu_dir.specs.Loading.{Loading}
use Rattle.lu_folder.specs.declared.fault.FolderFault.{FolderFault}
use Rattle.lu_reads.proofs.CheckLemmas.{segment-read, segment-refused}
use Rattle.lu_reads.proofs.checking.segment_says.Goals as goal

pub returns-in_ok-judged_segment-in-Ok-clause-says : goal.returns-in_ok-judged_segment-in-Ok-clause-says
returns-in_ok-judged_segment-in-Ok-clause-says g c =
    segment-read (g.D.Dir.files c.args.dir.now) c.args.generation c.args.place c.args.info.now c.in-Ok.loaded.found c.in_ok-judged_segment-in-Ok.field-0 c.in-Ok.ensures.loaded c.in-Ok.ensures.each c.in_ok-judged_segment-in-Ok.ensures

pub returns-in-Ok-refusal-clause-says : goal.returns-in-Ok-refusal-clause-says
returns-in-Ok-refusal-clause-says g c =
    let failed : FolderFault → Result Loading FolderFault = λ fault. Err fault in
    segment-refused (g.D.Dir.files c.args.dir.now) c.args.generation c.args.place c.args.info.now c.in-Err.fault c.in-Ok-refusal.outcome
    (λ kind is. c.in-Err.ensures.too_large kind (ap failed is)) (λ is. c.in-Err.ensures.no_index_fault (ap failed is)) (λ other spot is. c.in-Err.ensures.no_standing_fault other spot (ap failed is)) c.in-Ok-refusal.ensures.refused
