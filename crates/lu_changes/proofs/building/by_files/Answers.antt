use Rattle.std.proofs.Common.{◌≡◌}
use Rattle.std.proofs.lemmas.Result.{IfOk-weaker}
use Rattle.lu_outcomes.specs.declared.status.Refusal.TheVariants.{TooLarge}
use Rattle.lu_outcomes.specs.declared.outcome.Outcome.{Outcome}
use Rattle.lu_changes.specs.Basis.{basis_value}
use Rattle.lu_changes.specs.Building.{flushed, segment_outcome}
use Rattle.lu_outcomes.specs.Refusing.{refused_outcome}
use Rattle.lu_changes.proofs.BuildFilesLemmas.{answered-faulty, SumGives-written, SumGives-large, written-parts, written-commit}
use Rattle.lu_changes.proofs.building.by_files.Goals as goal

pub segment_made-requires-clause-parts : goal.segment_made-requires-clause-parts
segment_made-requires-clause-parts c = written-parts (basis_value c.args.basis) c.args.docs.now c.args.number c.options_for-options.result c.options_for-options.ensures c.requires.sound c.in-Ok.files c.in-Ok.ensures

pub segment_made-requires-clause-commit : goal.segment_made-requires-clause-commit
segment_made-requires-clause-commit c =
    written-commit (basis_value c.args.basis) c.args.docs.now c.args.number c.options_for-options.result c.options_for-options.ensures c.requires.sound c.in-Ok.files c.in-Ok.ensures c.hold_commit.ensures c.requires.drawn c.requires.version c.requires.sum

pub returns-in-Ok : goal.returns-in-Ok
returns-in-Ok c =
    IfOk-weaker c.segment_made.result (λ (outcome : Outcome). outcome ≡ segment_outcome (basis_value c.args.basis) flushed c.args.number c.in-Ok.files) _
    (λ outcome is. SumGives-written (basis_value c.args.basis) c.args.docs.now c.args.number c.options_for-options.result c.options_for-options.ensures c.requires.sound c.in-Ok.files outcome c.in-Ok.ensures is)
    c.segment_made.ensures

pub returns-in-Err-TooLarge : goal.returns-in-Err-TooLarge
returns-in-Err-TooLarge c =
    IfOk-weaker c.refused.result (λ (outcome : Outcome). outcome ≡ refused_outcome (TooLarge c.in-Err-TooLarge.kind)) _
    (λ outcome is. SumGives-large (basis_value c.args.basis) c.args.docs.now c.args.number c.options_for-options.result c.options_for-options.ensures c.requires.sound c.in-Err-TooLarge.field-0 c.in-Err-TooLarge.kind outcome c.in-Err-TooLarge.field-0-is c.in-Err-TooLarge.ensures is)
    c.refused.ensures

pub unreachable-requires : goal.unreachable-requires
unreachable-requires c = answered-faulty c.args.docs.now c.options_for-options.result c.requires.sound c.options_for-options.ensures.limits c.in-Err-Doc.field-0 _ _ c.in-Err-Doc.field-0-is c.in-Err-Doc.ensures
