-- Which outcome is due of `check`: the newest commit of the folder, and then its segments, one after another.
use Rattle.std.specs.Prelude.{◌≡◌, ◌⊎◌, ℕ, ◌+◌, List, [], ◌∷◌, length, sum_by, Option, Some, None, unwrap_or, Result, Ok, Err}
use Rattle.std.specs.Option.{ForSome}
use Rattle.lu_dir.specs.Files.{Files, AreMadeOfBytes}
use Rattle.lu_types.specs.FilePlans.{StandFor, IsFaultAmong}
use Rattle.lu_types.specs.declared.kind.FileKind.{FileKind}
use Rattle.lu_types.specs.declared.fault.Fault.{Fault}
use Rattle.lu_types.specs.declared.fault.Spot.{Spot}
use Rattle.segment_infos.specs.declared.infos.SegInfo.{SegInfo}
use Rattle.segment_infos.specs.Values.{total_size}
use Rattle.lu_folder.specs.Choosing.{AnswersNewest}
use Rattle.lu_folder.specs.Reading.{read_names, first_too_large}
use Rattle.lu_folder.specs.declared.choosing.Chosen.{Chosen}
use Rattle.lu_folder.specs.declared.fault.FolderFault.{FolderFault}
use Rattle.lu_folder.specs.declared.fault.FolderFault.TheVariants.{Failed, NoIndex, FileTooLarge, NotStanding, OutOfMemory}
use Rattle.check_index.specs.Segments.{SegmentValue, segment_files}
use Rattle.lu_outcomes.specs.declared.status.Status.TheVariants as statuses
use Rattle.lu_outcomes.specs.declared.outcome.Outcome.{Outcome}
use Rattle.lu_outcomes.specs.Texts.{no_index_text, spot_text, stands_text}
use Rattle.lu_reads.specs.Naming.{file_name, shown, commit_shown}
use Rattle.lu_reads.specs.Finding.{AreRead, folder_files}
use Rattle.lu_outcomes.specs.Outcomes.{without_effect, printing, too_large_outcome}

-- ---- outcomes

-- the folder has no commit
abbrev pub no_index_outcome : Outcome
no_index_outcome = without_effect statuses.NoIndex no_index_text

-- the commit of this generation has this fault in its own file
abbrev pub commit_fault : ℕ → Fault → Outcome
commit_fault generation fault = without_effect (statuses.NotStanding generation fault) (spot_text (commit_shown generation) fault.spot)

-- its segment at this place has this fault, which is named by the file's name in the folder
abbrev pub segment_fault : ℕ → ℕ → SegInfo → Spot → Outcome
segment_fault generation place line spot =
    without_effect (statuses.NotStanding generation (record { segment = place; spot = spot })) (spot_text (shown (file_name line spot.kind)) spot)

-- how many documents of the segments are deleted
abbrev pub total_deleted : List SegInfo → ℕ
total_deleted segments = sum_by (λ s. s.deleted) segments

-- it stands
abbrev pub stands_outcome : ℕ → List SegInfo → Outcome
stands_outcome generation segments = printing (stands_text (commit_shown generation) (length segments) (total_size segments) (total_deleted segments))

-- ---- segments

-- what is said of the segment at this place by what was found of its files: nothing where they stand, else their first fault
abbrev pub JudgedSays : List (Option (List ℕ)) → ℕ → ℕ → SegInfo → Option Outcome → Type 0
JudgedSays found generation place line None = (x : SegmentValue) × StandFor (segment_files (folder_files line found) line) x
JudgedSays found generation place line (Some outcome) =
    (spot : Spot) × IsFaultAmong (segment_files (folder_files line found) line) spot × (outcome ≡ segment_fault generation place line spot)

-- the first of its files that is too long is refused
abbrev pub IsRefused : Option Files → SegInfo → Option Outcome → Type 0
IsRefused files line None = ⊥
IsRefused files line (Some outcome) = (kind : FileKind) × ForSome files (λ told. first_too_large told (read_names line) ≡ Some kind) × (outcome ≡ too_large_outcome kind)

-- what is said of the segment at this place: the first of its files that is too long is refused, or what they come to
abbrev pub SegmentSays : Option Files → ℕ → ℕ → SegInfo → Option Outcome → Type 0
SegmentSays files generation place line said =
    IsRefused files line said ⊎ ((found : List (Option (List ℕ))) × AreRead files line found × JudgedSays found generation place line said)

-- what is said of the first segment, from this place on, of which something is said; nothing where all stand
abbrev pub SegmentsSay : Option Files → ℕ → ℕ → List SegInfo → Option Outcome → Type 0
SegmentsSay files generation place [] said = said ≡ None
SegmentsSay files generation place (line ∷ lines) said =
    ((outcome : Outcome) × SegmentSays files generation place line (Some outcome) × (said ≡ Some outcome))
    ⊎ (SegmentSays files generation place line None × SegmentsSay files generation (place + 1) lines said)

-- ---- the commit

-- what a commit with these segments comes to: what is said of its segments, or that it stands
abbrev pub CommitSays : Option Files → ℕ → List SegInfo → Outcome → Type 0
CommitSays files generation segments outcome =
    (said : Option Outcome) × SegmentsSay files generation 0 segments said × (outcome ≡ unwrap_or said (stands_outcome generation segments))

-- the outcome by which this is said of a folder or a file of it
abbrev pub Refuses : FolderFault → Outcome → Type 0
Refuses NoIndex outcome = outcome ≡ no_index_outcome
Refuses (FileTooLarge kind) outcome = outcome ≡ too_large_outcome kind
Refuses (NotStanding generation fault) outcome = outcome ≡ commit_fault generation fault
Refuses Failed outcome = ⊥
Refuses OutOfMemory outcome = ⊥

-- what `check` comes to, where this is answered of the newest commit
abbrev pub NewestSays : Option Files → Result Chosen FolderFault → Outcome → Type 0
NewestSays files (Ok chosen) outcome = CommitSays files chosen.generation chosen.commit.segments outcome
NewestSays files (Err fault) outcome = Refuses fault outcome

-- the outcome of `check` that is due: no name is that of a commit; or the newest commit's file is too long, or not good; or what is said of its segments
abbrev pub CheckDue : Option Files → Outcome → Type 0
CheckDue files outcome =
    ForSome files AreMadeOfBytes
    × ((answer : Result Chosen FolderFault) × ForSome files (λ told. AnswersNewest told answer) × NewestSays files answer outcome)
