-- What the merge of the segments of a commit comes to, as the program holds it.
use Rattle.std.specs.Prelude.{ℕ, ◌≤◌, All}
use Rattle.lu_types.specs.Names.{greatest_segment, IsPart}
use Rattle.lu_types.specs.declared.named_file.NamedFile.{NamedFile}
use Rattle.segment_infos.specs.Values.{IsCommit}
use Rattle.segment_files.specs.declared.options.SegmentFiles.{SegmentFiles}
use Rattle.lu_changes.specs.declared.merging.Upshot.{Upshot}
use Rattle.lu_changes.specs.declared.merging.Upshot.TheVariants.{Nothing, Segment, Refused}
use Rattle.lu_outcomes.specs.declared.outcome.Outcome.{Outcome}
use Rattle.lu_outcomes.specs.Refusing.{refused_outcome}
use Rattle.lu_changes.specs.Building.{BasisValue, sourced_line, with_line, no_segment_outcome, segment_outcome}
use Rattle.lu_changes.specs.Merging.{merged, emptied, on_emptied}

-- its outcome
abbrev pub outcome_of : BasisValue → Upshot → Outcome
outcome_of basis Nothing = no_segment_outcome (on_emptied basis)
outcome_of basis (Segment number files) = segment_outcome (on_emptied basis) merged number files
outcome_of basis (Refused refusal) = refused_outcome refusal

-- a segment with this number and these files can stand in place of all
pub record IsSayable (basis : BasisValue) (segment : ℕ) (all : SegmentFiles) : Type 0 where
  pub number : segment ≤ greatest_segment
  pub parts : All (λ file. IsPart file.kind) all.files
  pub commit : IsCommit (with_line (sourced_line merged segment all) (emptied basis.before))

-- a commit can be made of it
abbrev pub CanBeMade : BasisValue → Upshot → Type 0
CanBeMade basis (Segment number files) = IsSayable basis number files
CanBeMade basis upshot = Unit {0}
