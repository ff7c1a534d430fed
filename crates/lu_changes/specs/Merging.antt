-- Which outcome is due of `merge`: the current commit, then its segments, then the merge of what they stand for (docs/FORMAT.md, "Commits in a folder",
-- "Indexes").
use Rattle.std.specs.Prelude.{◌≡◌, ℕ, zero, suc, Bool, true, false, nat_le, List, [], codes, Option, Some, None}
use Rattle.lu_dir.specs.Files.{Files}
use Rattle.lu_types.specs.Bounds.{most_documents}
use Rattle.lu_model.specs.Contents.{merge_of}
use Rattle.lu_model.specs.Index.{Index}
use Rattle.segment_infos.specs.Values.{CommitValue}
use Rattle.check_index.specs.Segments.{SegmentValue}
use Rattle.lu_folder.specs.Drawing.{next_segment}
use Rattle.seg_merger.specs.Merged.{indexes_of}
use Rattle.lu_outcomes.specs.declared.status.Refusal.TheVariants as refusals
use Rattle.lu_outcomes.specs.declared.outcome.Outcome.{Outcome}
use Rattle.lu_outcomes.specs.Refusing.{refused_outcome}
use Rattle.lu_changes.specs.Building.{BasisValue, no_segment_outcome, IndexGives}
use Rattle.lu_changes.specs.Following.{FollowDue}

-- where a segment of other segments comes from: they were merged
abbrev pub merged : List ℕ
merged = codes "merge"

-- the commit without its segments
abbrev pub emptied : CommitValue → CommitValue
emptied before = record { version = before.version; counter = before.counter; segments = []; user = before.user }

-- the new commit is built on the one before without its segments
abbrev pub on_emptied : BasisValue → BasisValue
on_emptied basis = record { names = basis.names; before = emptied basis.before; generation = basis.generation; compound = basis.compound }

-- ---- what is due

-- by whether a merge may keep so many documents: then the new segment has its index, and stands in place of all
abbrev pub CountMerges : BasisValue → ℕ → Index → Bool → Outcome → Type 0
CountMerges basis number index true outcome = IndexGives (on_emptied basis) merged number index outcome
CountMerges basis number index false outcome = outcome ≡ refused_outcome refusals.TooMany

-- by the number of the new segment
abbrev pub NumberMerges : BasisValue → Index → Option ℕ → Outcome → Type 0
NumberMerges basis index (Some number) outcome = CountMerges basis number index (nat_le index.size most_documents) outcome
NumberMerges basis index None outcome = outcome ≡ refused_outcome refusals.CounterFull

-- by how many documents are live: with none, the commit has no segments
abbrev pub SizeMerges : BasisValue → Index → ℕ → Outcome → Type 0
SizeMerges basis index zero outcome = outcome ≡ no_segment_outcome (on_emptied basis)
SizeMerges basis index (suc count) outcome = NumberMerges basis index (next_segment basis.names basis.before) outcome

-- where the segments stand for this
abbrev pub ValuesMerge : BasisValue → List SegmentValue → Outcome → Type 0
ValuesMerge basis xs outcome = SizeMerges basis (merge_of (indexes_of xs)) (merge_of (indexes_of xs)).size outcome

-- so over the names of the folder, the current commit, and the generation of the next one
abbrev pub MergeGives : Bool → List (List ℕ) → CommitValue → ℕ → List SegmentValue → Outcome → Type 0
MergeGives compound names before generation xs outcome =
    ValuesMerge (record { names = names; before = before; generation = generation; compound = compound }) xs outcome

-- the outcome of `merge` that is due over these files
abbrev pub MergeDue : Bool → Option Files → Outcome → Type 0
MergeDue compound files outcome = FollowDue (MergeGives compound) files outcome
