use Rattle.std.proofs.Common.{◌≡◌, ℕ, Option, refl, sym, subst, ◌∙◌, arith}
use Rattle.std.proofs.lemmas.Result.{IfOk-weaker}
use Rattle.lu_model.specs.Contents.{merge_of}
use Rattle.seg_merger.specs.Merged.{indexes_of}
use Rattle.lu_changes.specs.declared.merging.Upshot.{Upshot}
use Rattle.lu_changes.specs.declared.merging.Upshot.TheVariants.{Refused}
use Rattle.lu_outcomes.specs.declared.status.Refusal.TheVariants.{CounterFull}
use Rattle.lu_changes.specs.Basis.{basis_value}
use Rattle.lu_changes.specs.Merging.{NumberMerges}
use Rattle.lu_changes.specs.Upshots.{outcome_of}
use Rattle.lu_changes.proofs.MergeLiveLemmas.{live-merge}
use Rattle.lu_changes.proofs.MergeStepLemmas.{values-none, values-some}
use Rattle.lu_changes.proofs.merging.merged_joined.Goals as goal

pub returns-then-joined-eq0-clause-merges : goal.returns-then-joined-eq0-clause-merges
returns-then-joined-eq0-clause-merges c =
    let joined = c.args.joined.now in
    values-none (basis_value c.args.basis.now) joined.sources (sym (live-merge (indexes_of joined.sources)) ∙ sym joined.counted ∙ c.if-joined-eq0.true)

pub returns-in-Some-clause-merges : goal.returns-in-Some-clause-merges
returns-in-Some-clause-merges c =
    let joined = c.args.joined.now in
    let basis = basis_value c.args.basis.now in
    IfOk-weaker c.merged_as.result _ _
    (λ (upshot : Upshot) gives. values-some basis joined.sources (outcome_of basis upshot) (omega (arith, c.if-joined-eq0.false, joined.counted, live-merge (indexes_of joined.sources)))
    (subst (λ (drawn : Option ℕ). NumberMerges basis (merge_of (indexes_of joined.sources)) drawn (outcome_of basis upshot)) c.in-Some.ensures gives))
    c.merged_as.ensures.merges

pub returns-in-None-clause-merges : goal.returns-in-None-clause-merges
returns-in-None-clause-merges c =
    let joined = c.args.joined.now in
    let basis = basis_value c.args.basis.now in
    let full = outcome_of basis (Refused CounterFull) in
    values-some basis joined.sources full (omega (arith, c.if-joined-eq0.false, joined.counted, live-merge (indexes_of joined.sources)))
    (subst (λ (drawn : Option ℕ). NumberMerges basis (merge_of (indexes_of joined.sources)) drawn full) c.in-None.ensures refl)
