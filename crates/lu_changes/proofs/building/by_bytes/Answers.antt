use Rattle.std.proofs.Common.{◌≡◌, List, Ok, subst}
use Rattle.std.proofs.lemmas.Result.{IfOk-weaker}
use Rattle.std.specs.Global.{Global}
use Rattle.std.specs.declared.vec.Vec.{Vec}
use Rattle.lu_types.specs.declared.document.Document.{Document}
use Rattle.lu_outcomes.specs.declared.status.Refusal.TheVariants.{Line}
use Rattle.lu_outcomes.specs.declared.outcome.Outcome.{Outcome}
use Rattle.lu_changes.specs.Basis.{basis_value}
use Rattle.lu_changes.specs.Building.{DocumentsGive}
use Rattle.lu_outcomes.specs.Refusing.{refused_outcome}
use Rattle.lu_changes.proofs.BuildStepLemmas.{BytesGive-answered, BytesGive-faulty}
use Rattle.lu_changes.proofs.building.by_bytes.Goals as goal

pub returns-in-Ok : goal.returns-in-Ok
returns-in-Ok c =
    IfOk-weaker c.by_documents.result (λ outcome. DocumentsGive (basis_value c.args.basis) (Ok c.as_slice.result.now) outcome) _
    (λ outcome gives. BytesGive-answered (λ docs. docs.items) (basis_value c.args.basis) c.args.bytes.items c.in-Ok.docs outcome c.in-Ok.ensures.judges
    (subst (λ (docs : List Document). DocumentsGive (basis_value c.args.basis) (Ok docs) outcome) c.as_slice.ensures.value gives))
    c.by_documents.ensures

pub returns-in-Err-Line : goal.returns-in-Err-Line
returns-in-Err-Line c =
    IfOk-weaker c.refused.result (λ (outcome : Outcome). outcome ≡ refused_outcome (Line c.in-Err-Line.number c.in-Err-Line.fault)) _
    (λ outcome is. BytesGive-faulty {V = Vec Document Global} (λ docs. docs.items) (basis_value c.args.basis) c.args.bytes.items c.in-Err-Line.field-0 c.in-Err-Line.number c.in-Err-Line.fault outcome c.in-Err-Line.field-0-is c.in-Err-Line.ensures.judges is)
    c.refused.ensures
