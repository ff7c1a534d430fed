use Rattle.std.proofs.Common.{Err, subst}
use Rattle.check_index.specs.declared.parts.CheckFault.{CheckFault}
use Rattle.check_index.specs.Files.{folder_of}
use Rattle.check_index.specs.Segments.{IsJudged}
use Rattle.lu_reads.proofs.CheckLemmas.{found-short, judged-fault}
use Rattle.lu_changes.proofs.deleting.judged_marking.Goals as goal

pub check_segment-requires-clause-short : goal.check_segment-requires-clause-short
check_segment-requires-clause-short c = found-short c.args.loaded.now.found c.args.loaded.now.names c.args.info.now _ c.in_ok-parts.ensures c.requires.names c.requires.each

pub returns-in_ok-outcome-in-Err-Fault-clause-said : goal.returns-in_ok-outcome-in-Err-Fault-clause-said
returns-in_ok-outcome-in-Err-Fault-clause-said c =
    judged-fault c.args.loaded.now.found c.args.loaded.now.names c.args.info.now _ c.in_ok-parts.ensures c.requires.names c.args.deletion.now.chosen.generation c.args.place c.in-Err-Fault.fault c.in_ok-outcome-in-Err-Fault.outcome
    (subst (λ (fault : CheckFault). IsJudged (folder_of c.in_ok-parts.parts) c.args.place c.args.info.now (Err fault)) c.in-Err-Fault.field-0-is c.in-Err-Fault.ensures) c.in_ok-outcome-in-Err-Fault.ensures
