-- The outcome of `delete` that is due is proper: it loses nothing.
use Rattle.std.proofs.Common.{◌≡◌, ℕ, ◌+◌, ◌^◌, ◌<◌, List, Option, Some, None, refl}
use Rattle.std.specs.Option.{ForSome}
use Rattle.std.specs.List.{flat_map}
use Rattle.std.specs.FinMap.{keys}
use Rattle.lu_dir.specs.Files.{Files}
use Rattle.segment_infos.specs.Values.{CommitValue, IsCommit}
use Rattle.check_index.specs.Segments.{SegmentValue}
use Rattle.lu_folder.specs.Drawing.{next_generation}
use Rattle.lu_outcomes.specs.declared.outcome.Outcome.{Outcome}
use Rattle.lu_outcomes.specs.Outcomes.{IsProper}
use Rattle.lu_reads.specs.Segments.{AreReadAs}
use Rattle.lu_changes.specs.Deleting.{markings_of, first_full, file_of, marked_lines, with_lines, marked_outcome, unless_full, MarksGive, DeleteDue}
use Rattle.lu_reads.proofs.IdleLemmas.{idle-without_effect}
use Rattle.lu_changes.proofs.BuildProper.{commit-proper, refusal-proper}
use Rattle.lu_changes.proofs.FollowLemmas.{follow-proper}
use Rattle.lu_changes.proofs.MarkedCommitLemmas.{marked-commit}
use Rattle.lu_changes.proofs.MarkedFilesLemmas.{marked-new_files}

module _ (files : Option Files) (field text : List ℕ) (outcome : Outcome) (names : List (List ℕ)) (named : ForSome files (λ told. names ≡ keys told)) (before : CommitValue) (is : ForSome files (λ told. IsCommit before))
    (generation : ℕ) (drawn : next_generation names ≡ Some generation) (version : before.version + 1 < 2 ^ 63) (xs : List SegmentValue) (read : AreReadAs files before.segments xs) where
  -- a commit that marks the segments
  made-proper : outcome ≡ marked_outcome names before generation (markings_of names field text before.segments xs) → IsProper files outcome
  made-proper same =
      let markings = markings_of names field text before.segments xs in
      commit-proper files names named generation (with_lines (marked_lines before.segments markings) before) (flat_map file_of markings) _ outcome same drawn
      (λ told there. marked-commit files names field text before markings (xs, read, refl) (is told there) version)
      (λ told there. marked-new_files names field text before.segments xs (is told there).segments)

  marks-proper : MarksGive field text names before generation xs outcome → IsProper files outcome
  marks-proper same = by_full (first_full 0 (markings_of names field text before.segments xs)) same
    where
      by_full : (full : Option ℕ) → outcome ≡ unless_full full (marked_outcome names before generation (markings_of names field text before.segments xs)) → IsProper files outcome
      by_full (Some place) is_refused = refusal-proper files _ outcome (idle-without_effect _ _ tt) is_refused
      by_full None is_made = made-proper is_made

-- the outcome of `delete` that is due is proper
pub delete-proper : (files : Option Files) (field text : List ℕ) (outcome : Outcome) → DeleteDue field text files outcome → IsProper files outcome
delete-proper files field text outcome =
    follow-proper (MarksGive field text) files outcome (λ names named before is generation drawn version xs read. marks-proper files field text outcome names named before is generation drawn version xs read)
