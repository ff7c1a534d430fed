-- The outcome of `merge` that is due is proper: it loses nothing.
use Rattle.std.proofs.Common.{◌≡◌, ℕ, zero, suc, ◌+◌, ◌^◌, ◌<◌, ◌≤◌, Bool, true, false, List, [], Option, Some, None, refl, arith}
use Rattle.std.specs.Prelude.{nat_le}
use Rattle.std.specs.Option.{ForSome}
use Rattle.std.specs.FinMap.{keys}
use Rattle.std.proofs.lemmas.Bool.{leb-true}
use Rattle.lu_dir.specs.Files.{Files}
use Rattle.lu_types.specs.Bounds.{most_documents}
use Rattle.lu_model.specs.Contents.{merge_of}
use Rattle.lu_model.specs.Index.{Index}
use Rattle.segment_infos.specs.Values.{CommitValue, IsCommit}
use Rattle.lu_folder.specs.Drawing.{next_generation, next_segment}
use Rattle.seg_merger.specs.Merged.{indexes_of}
use Rattle.lu_outcomes.specs.declared.outcome.Outcome.{Outcome}
use Rattle.lu_outcomes.specs.Outcomes.{IsProper}
use Rattle.lu_changes.specs.Building.{BasisValue, raised}
use Rattle.lu_changes.specs.Merging.{merged, emptied, on_emptied, CountMerges, NumberMerges, SizeMerges, MergeGives, MergeDue}
use Rattle.lu_reads.proofs.IdleLemmas.{idle-without_effect}
use Rattle.lu_changes.proofs.NewCommitLemmas.{emptied-commit, alone-commit}
use Rattle.lu_changes.proofs.BuildProper.{raised-commit, no-new_files, refusal-proper, commit-proper, index-proper}
use Rattle.lu_changes.proofs.FollowLemmas.{follow-proper}

module _ (files : Option Files) (names : List (List ℕ)) (named : ForSome files (λ told. names ≡ keys told)) (compound : Bool) (outcome : Outcome) (before : CommitValue) (is : ForSome files (λ told. IsCommit before))
    (generation : ℕ) (drawn : next_generation names ≡ Some generation) (version : before.version + 1 < 2 ^ 63) (index : Index) where
  abbrev basis : BasisValue
  basis = record { names = names; before = before; generation = generation; compound = compound }

  count-proper : (number : ℕ) → next_segment names before ≡ Some number → (few : Bool) → nat_le index.size most_documents ≡ few → CountMerges basis number index few outcome → IsProper files outcome
  count-proper number counted true within gives =
      let few : index.size ≤ 268435455 = leb-true index.size most_documents within in
      index-proper files names named (on_emptied basis) refl drawn outcome merged before number counted index
      (λ all size told there. alone-commit names before number all (is told there) counted version (omega (arith, size, few))) gives
  count-proper number counted false within same = refusal-proper files _ outcome (idle-without_effect _ _ tt) same

  number-proper : (counted : Option ℕ) → next_segment names before ≡ counted → NumberMerges basis index counted outcome → IsProper files outcome
  number-proper (Some number) counted gives = count-proper number counted (nat_le index.size most_documents) refl gives
  number-proper None counted same = refusal-proper files _ outcome (idle-without_effect _ _ tt) same

  size-proper : (count : ℕ) → SizeMerges basis index count outcome → IsProper files outcome
  size-proper zero same =
      commit-proper files names named generation (raised (emptied before)) [] _ outcome same drawn
      (λ told there. raised-commit (emptied before) (emptied-commit before (is told there)) version) (λ told there. no-new_files names)
  size-proper (suc count) gives = number-proper (next_segment names before) refl gives

-- the outcome of `merge` that is due is proper
pub merge-proper : (files : Option Files) (compound : Bool) (outcome : Outcome) → MergeDue compound files outcome → IsProper files outcome
merge-proper files compound outcome =
    follow-proper (MergeGives compound) files outcome
    (λ names named before is generation drawn version xs read. size-proper files names named compound outcome before is generation drawn version (merge_of (indexes_of xs)) (merge_of (indexes_of xs)).size)
