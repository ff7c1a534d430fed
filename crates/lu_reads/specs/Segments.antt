-- The segments of a commit that stand, as a command finds them in the folder (docs/FORMAT.md, "How a fault is found").
use Rattle.std.specs.Prelude.{◌⊎◌, ℕ, List, Option, Some}
use Rattle.std.specs.List.{AllZip}
use Rattle.lu_dir.specs.Files.{Files}
use Rattle.lu_types.specs.FilePlans.{StandFor}
use Rattle.segment_infos.specs.declared.infos.SegInfo.{SegInfo}
use Rattle.check_index.specs.Segments.{SegmentValue, segment_files}
use Rattle.lu_outcomes.specs.declared.outcome.Outcome.{Outcome}
use Rattle.lu_reads.specs.Finding.{AreRead, folder_files}
use Rattle.lu_reads.specs.Checking.{SegmentsSay}

-- what the folder has of the segment's files stands for this
pub record IsReadAs (files : Option Files) (line : SegInfo) (x : SegmentValue) : Type 0 where
  pub found : List (Option (List ℕ))
  pub read : AreRead files line found
  pub stands : StandFor (segment_files (folder_files line found) line) x

-- so it is of each segment
abbrev pub AreReadAs : Option Files → List SegInfo → List SegmentValue → Type 0
AreReadAs files lines xs = AllZip (IsReadAs files) lines xs

-- what a command comes to by these segments of the commit of this generation: by the first of which something is said; or all stand, and it comes to
-- this by what they stand for
abbrev pub SegmentsGive : Option Files → ℕ → List SegInfo → (List SegmentValue → Outcome → Type 0) → Outcome → Type 0
SegmentsGive files generation lines Give outcome =
    SegmentsSay files generation 0 lines (Some outcome) ⊎ ((xs : List SegmentValue) × AreReadAs files lines xs × Give xs outcome)
