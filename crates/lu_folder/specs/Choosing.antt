-- What the calls answer that choose a commit of a folder.
use Rattle.std.specs.Prelude.{◌≡◌, ◌↔◌, ℕ, ◌<◌, ◌≤◌, Bool, true, false, List, [], Option, Some, None, Result, Ok, Err}
use Rattle.lu_dir.specs.Files.{Files}
use Rattle.lu_dir.specs.Loading.{is_over}
use Rattle.lu_types.specs.FilePlans.{missing}
use Rattle.lu_types.specs.Judging.{IsFirstFault}
use Rattle.lu_types.specs.declared.fault.Fault.{Fault}
use Rattle.lu_types.specs.declared.fault.Spot.{Spot}
use Rattle.lu_types.specs.declared.kind.FileKind.TheVariants as kinds
use Rattle.segment_infos.specs.Format.{commit_plan}
use Rattle.segment_infos.specs.Values.{CommitValue}
use Rattle.lu_folder.specs.Limits.{file_limit}
use Rattle.lu_folder.specs.Commits.{commit_file, IsGoodCommit, IsCurrent, HasCommitFile, IsNewest}
use Rattle.lu_folder.specs.declared.choosing.Chosen.{Chosen}
use Rattle.lu_folder.specs.declared.fault.FolderFault.{FolderFault}
use Rattle.lu_folder.specs.declared.fault.FolderFault.TheVariants.{Failed, NoIndex, FileTooLarge, NotStanding, OutOfMemory}

-- the file is missing, or not good, and this is its first fault
abbrev pub IsFaulty : Option (List ℕ) → Spot → Type 0
IsFaulty None spot = spot ≡ missing kinds.Commit
IsFaulty (Some bytes) spot = IsFirstFault kinds.Commit (commit_plan bytes) bytes spot

-- the commit of this generation has this first fault
abbrev pub HasFault : Files → ℕ → Fault → Type 0
HasFault files generation fault = (fault.segment ≡ 0) × IsFaulty (commit_file files generation) fault.spot

-- whether the file of the commit of this generation has more bytes than are read
abbrev pub is_too_large : Files → ℕ → Bool
is_too_large files generation = is_over file_limit (commit_file files generation)

-- the commit of this generation is passed over: its file is not too large, and not good
pub record IsPassedOver (files : Files) (generation : ℕ) : Type 0 where
  pub fits : is_too_large files generation ≡ false
  pub not_good : (commit : CommitValue) → ¬ IsGoodCommit files generation commit

-- what is answered where the current commit is looked for
abbrev pub AnswersCurrent : Files → Result Chosen FolderFault → Type 0
AnswersCurrent files (Ok chosen) =
    IsCurrent files chosen.generation chosen.commit
    × ((later : ℕ) → chosen.generation ≤ later → HasCommitFile files later → is_too_large files later ≡ false)
AnswersCurrent files (Err NoIndex) = (generation : ℕ) → ¬ HasCommitFile files generation
AnswersCurrent files (Err (FileTooLarge kind)) =
    (kind ≡ kinds.Commit)
    × ((generation : ℕ) × HasCommitFile files generation × (is_too_large files generation ≡ true)
    × ((later : ℕ) → generation < later → HasCommitFile files later → IsPassedOver files later))
AnswersCurrent files (Err (NotStanding generation fault)) =
    IsNewest files generation × HasFault files generation fault × ((other : ℕ) → HasCommitFile files other → IsPassedOver files other)
AnswersCurrent files (Err Failed) = Unit {0}
AnswersCurrent files (Err OutOfMemory) = Unit {0}

-- what is answered where the newest commit is looked for
abbrev pub AnswersNewest : Files → Result Chosen FolderFault → Type 0
AnswersNewest files (Ok chosen) =
    IsNewest files chosen.generation × IsGoodCommit files chosen.generation chosen.commit × (is_too_large files chosen.generation ≡ false)
AnswersNewest files (Err NoIndex) = (generation : ℕ) → ¬ HasCommitFile files generation
AnswersNewest files (Err (FileTooLarge kind)) =
    (kind ≡ kinds.Commit) × ((generation : ℕ) × IsNewest files generation × (is_too_large files generation ≡ true))
AnswersNewest files (Err (NotStanding generation fault)) =
    IsNewest files generation × HasFault files generation fault × IsPassedOver files generation
AnswersNewest files (Err Failed) = Unit {0}
AnswersNewest files (Err OutOfMemory) = Unit {0}

-- that there is no index is answered where there are no generations, and then nothing else but that memory was wanted
abbrev pub IsNoIndex : Result Chosen FolderFault → List ℕ → Type 0
IsNoIndex (Ok chosen) generations = ¬ (generations ≡ [])
IsNoIndex (Err NoIndex) generations = generations ≡ []
IsNoIndex (Err (FileTooLarge kind)) generations = ¬ (generations ≡ [])
IsNoIndex (Err (NotStanding generation fault)) generations = ¬ (generations ≡ [])
IsNoIndex (Err Failed) generations = ¬ (generations ≡ [])
IsNoIndex (Err OutOfMemory) generations = Unit {0}

-- the answer is one that the files decide: neither a failure of the device nor want of memory
abbrev pub IsTold : Result Chosen FolderFault → Type 0
IsTold (Err Failed) = ⊥
IsTold (Err OutOfMemory) = ⊥
IsTold (Err NoIndex) = Unit {0}
IsTold (Err (FileTooLarge kind)) = Unit {0}
IsTold (Err (NotStanding generation fault)) = Unit {0}
IsTold (Ok chosen) = Unit {0}
