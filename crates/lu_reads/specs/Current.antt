-- What a command comes to by the current commit of the folder, and then by the segments of it (docs/FORMAT.md, "How a fault is found").
use Rattle.std.specs.Prelude.{List, Option, Result, Ok, Err}
use Rattle.std.specs.Option.{ForSome}
use Rattle.lu_dir.specs.Files.{Files, AreMadeOfBytes}
use Rattle.lu_folder.specs.Choosing.{AnswersCurrent}
use Rattle.lu_folder.specs.declared.choosing.Chosen.{Chosen}
use Rattle.lu_folder.specs.declared.fault.FolderFault.{FolderFault}
use Rattle.check_index.specs.Segments.{SegmentValue}
use Rattle.lu_outcomes.specs.declared.outcome.Outcome.{Outcome}
use Rattle.lu_reads.specs.Checking.{Refuses}
use Rattle.lu_reads.specs.Segments.{SegmentsGive}

-- what a command comes to, where this is answered about the current commit, and it comes to this by what the segments stand for
abbrev pub CurrentGives : (List SegmentValue → Outcome → Type 0) → Option Files → Result Chosen FolderFault → Outcome → Type 0
CurrentGives Give files (Ok chosen) outcome = SegmentsGive files chosen.generation chosen.commit.segments Give outcome
CurrentGives Give files (Err fault) outcome = Refuses fault outcome

-- the outcome that is due: no name is that of a commit; or a commit's file is too long, or none is good; or what is said of the segments of the
-- current commit; or what the command comes to by what they stand for
abbrev pub CurrentDue : (List SegmentValue → Outcome → Type 0) → Option Files → Outcome → Type 0
CurrentDue Give files outcome =
    ForSome files AreMadeOfBytes
    × ((answer : Result Chosen FolderFault) × ForSome files (λ told. AnswersCurrent told answer) × CurrentGives Give files answer outcome)
