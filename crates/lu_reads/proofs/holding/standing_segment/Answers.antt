use Rattle.std.proofs.Common.{Err, subst}
use Rattle.check_index.specs.declared.parts.CheckFault.{CheckFault}
use Rattle.check_index.specs.Files.{folder_of}
use Rattle.check_index.specs.Segments.{IsJudged}
use Rattle.lu_reads.proofs.CheckLemmas.{found-short, found-stands, judged-fault}
use Rattle.lu_reads.proofs.holding.standing_segment.Goals as goal

pub check_segment-requires-clause-short : goal.check_segment-requires-clause-short
check_segment-requires-clause-short c = found-short c.args.held.now.files.found c.args.held.now.files.names c.args.held.now.line.now _ c.in_ok-parts.ensures c.requires.names c.requires.each

pub returns-in-Ok-clause-stands : goal.returns-in-Ok-clause-stands
returns-in-Ok-clause-stands c = found-stands c.args.held.now.files.found c.args.held.now.files.names c.args.held.now.line.now _ c.in_ok-parts.ensures c.requires.names c.in-Ok.standing c.in-Ok.ensures

pub returns-in_ok-outcome-in-Err-Fault-clause-said : goal.returns-in_ok-outcome-in-Err-Fault-clause-said
returns-in_ok-outcome-in-Err-Fault-clause-said c =
    judged-fault c.args.held.now.files.found c.args.held.now.files.names c.args.held.now.line.now _ c.in_ok-parts.ensures c.requires.names c.args.generation c.args.place c.in-Err-Fault.fault c.in_ok-outcome-in-Err-Fault.outcome
    (subst (λ (fault : CheckFault). IsJudged (folder_of c.in_ok-parts.parts) c.args.place c.args.held.now.line.now (Err fault)) c.in-Err-Fault.field-0-is c.in-Err-Fault.ensures) c.in_ok-outcome-in-Err-Fault.ensures
