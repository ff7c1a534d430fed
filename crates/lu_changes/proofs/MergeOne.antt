-- The outcome of `merge` that is due is one.
use Rattle.std.proofs.Common.{◌≡◌, ℕ, zero, suc, Bool, true, false, List, Option, Some, None, sym, ◌∙◌}
use Rattle.std.specs.Prelude.{nat_le}
use Rattle.lu_dir.specs.Files.{Files}
use Rattle.lu_types.specs.Bounds.{most_documents}
use Rattle.lu_model.specs.Contents.{merge_of}
use Rattle.lu_model.specs.Index.{Index}
use Rattle.lu_folder.specs.Drawing.{next_segment}
use Rattle.seg_merger.specs.Merged.{indexes_of}
use Rattle.lu_outcomes.specs.declared.outcome.Outcome.{Outcome}
use Rattle.lu_changes.specs.Building.{BasisValue}
use Rattle.lu_changes.specs.Merging.{merged, on_emptied, CountMerges, NumberMerges, SizeMerges, MergeGives, MergeDue}
use Rattle.lu_changes.proofs.BuildOne.{index-one}
use Rattle.lu_changes.proofs.FollowLemmas.{follow-one}

module _ (basis : BasisValue) (index : Index) (one other : Outcome) where
  count-one : (number : ℕ) (few : Bool) → CountMerges basis number index few one → CountMerges basis number index few other → one ≡ other
  count-one number true a b = index-one (on_emptied basis) merged number one other index a b
  count-one number false a b = a ∙ sym b

  number-one : (drawn : Option ℕ) → NumberMerges basis index drawn one → NumberMerges basis index drawn other → one ≡ other
  number-one (Some number) a b = count-one number (nat_le index.size most_documents) a b
  number-one None a b = a ∙ sym b

  size-one : (count : ℕ) → SizeMerges basis index count one → SizeMerges basis index count other → one ≡ other
  size-one zero a b = a ∙ sym b
  size-one (suc count) a b = number-one (next_segment basis.names basis.before) a b

-- the outcome of `merge` that is due is one
pub merge-one : (told : Files) (compound : Bool) (one other : Outcome) → MergeDue compound (Some told) one → MergeDue compound (Some told) other → one ≡ other
merge-one told compound one other =
    follow-one (MergeGives compound) told one other
    (λ names before generation xs. size-one (record { names = names; before = before; generation = generation; compound = compound }) (merge_of (indexes_of xs)) one other (merge_of (indexes_of xs)).size)
