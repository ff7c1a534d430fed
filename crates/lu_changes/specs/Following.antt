-- Which outcome is due of a command that makes a commit by what the segments of the current one stand for: the current commit, whether another may follow
-- it, then its segments (docs/FORMAT.md, "Commits in a folder").
use Rattle.std.specs.Prelude.{◌≡◌, ℕ, ◌+◌, ◌^◌, Bool, true, false, nat_lt, List, Option, Some, None, Result, Ok, Err}
use Rattle.std.specs.Option.{ForSome}
use Rattle.std.specs.FinMap.{keys}
use Rattle.lu_dir.specs.Files.{Files, AreMadeOfBytes}
use Rattle.segment_infos.specs.Values.{CommitValue}
use Rattle.check_index.specs.Segments.{SegmentValue}
use Rattle.lu_folder.specs.Choosing.{AnswersCurrent}
use Rattle.lu_folder.specs.Drawing.{next_generation}
use Rattle.lu_folder.specs.declared.choosing.Chosen.{Chosen}
use Rattle.lu_folder.specs.declared.fault.FolderFault.{FolderFault}
use Rattle.lu_outcomes.specs.declared.status.Refusal.TheVariants as refusals
use Rattle.lu_outcomes.specs.declared.outcome.Outcome.{Outcome}
use Rattle.lu_outcomes.specs.Refusing.{refused_outcome}
use Rattle.lu_reads.specs.Checking.{Refuses}
use Rattle.lu_reads.specs.Segments.{SegmentsGive}

-- what a command comes to by the names of the folder, the current commit, the generation of the next one, and what the segments stand for
module _ (Give : List (List ℕ) → CommitValue → ℕ → List SegmentValue → Outcome → Type 0) (files : Option Files) (names : List (List ℕ)) where
  -- by the segments of the commit
  abbrev pub SegmentsFollow : Chosen → ℕ → Outcome → Type 0
  SegmentsFollow chosen generation outcome = SegmentsGive files chosen.generation chosen.commit.segments (Give names chosen.commit generation) outcome

  -- by whether the version can be raised
  abbrev pub VersionFollows : Chosen → ℕ → Bool → Outcome → Type 0
  VersionFollows chosen generation true outcome = SegmentsFollow chosen generation outcome
  VersionFollows chosen generation false outcome = outcome ≡ refused_outcome refusals.VersionFull

  -- by the generation of the next commit
  abbrev pub GenerationFollows : Chosen → Option ℕ → Outcome → Type 0
  GenerationFollows chosen (Some generation) outcome = VersionFollows chosen generation (nat_lt (chosen.commit.version + 1) (2 ^ 63)) outcome
  GenerationFollows chosen None outcome = outcome ≡ refused_outcome refusals.GenerationFull

  -- by what is answered about the current commit
  abbrev pub CurrentFollows : Result Chosen FolderFault → Outcome → Type 0
  CurrentFollows (Ok chosen) outcome = GenerationFollows chosen (next_generation names) outcome
  CurrentFollows (Err fault) outcome = Refuses fault outcome

-- the outcome that is due over these files
abbrev pub FollowDue : (List (List ℕ) → CommitValue → ℕ → List SegmentValue → Outcome → Type 0) → Option Files → Outcome → Type 0
FollowDue Give files outcome =
    ForSome files AreMadeOfBytes
    × ((names : List (List ℕ)) × ForSome files (λ told. names ≡ keys told)
    × ((answer : Result Chosen FolderFault) × ForSome files (λ told. AnswersCurrent told answer) × CurrentFollows Give files names answer outcome))
