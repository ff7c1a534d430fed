-- Looks at commits one after another, from the greatest generation down.
use Rattle.std.specs.Prelude.{◌≡◌, ℕ, ◌<◌, true, false, List, length, slice_index, Option, Some, None, IfSome, Result, Ok, Err}
use Rattle.lu_grammar.specs.Bytes.{IsBytes}
use Rattle.lu_dir.specs.Files.{Files}
use Rattle.lu_dir.specs.declared.loading.LoadFault.{LoadFault}
use Rattle.lu_dir.specs.declared.loading.LoadFault.TheVariants as load
use Rattle.lu_types.specs.declared.fault.Spot.{Spot}
use Rattle.lu_types.specs.declared.kind.FileKind.{FileKind}
use Rattle.lu_types.specs.declared.kind.FileKind.TheVariants as kinds
use Rattle.lu_folder.specs.Commits.{commit_file, Says, IsGoodCommit}
use Rattle.lu_folder.specs.Choosing.{IsFaulty, HasFault, is_too_large, IsPassedOver}
use Rattle.lu_folder.specs.declared.choosing.Chosen.{Chosen}
use Rattle.lu_folder.specs.declared.choosing.Look.{Look}
use Rattle.lu_folder.specs.declared.choosing.Look.TheVariants.{Good, Faulty}
use Rattle.lu_folder.specs.declared.fault.FolderFault.{FolderFault}
use Rattle.lu_folder.specs.declared.fault.FolderFault.TheVariants.{Failed, NoIndex, FileTooLarge, NotStanding, OutOfMemory}

-- the fault of a call that loads files of which the first that is too large has this kind
abbrev pub folder_fault_of : LoadFault → FileKind → FolderFault
folder_fault_of load.Failed kind = Failed
folder_fault_of (load.TooLarge place) kind = FileTooLarge kind
folder_fault_of load.OutOfMemory kind = OutOfMemory

-- what the file of a commit tells
abbrev pub CommitTells : Option (List ℕ) → Look → Type 0
CommitTells found (Good commit) = Says found commit
CommitTells found (Faulty spot) = IsFaulty found spot

-- what a look at the commit of this generation answers
abbrev pub Looks : Files → ℕ → Result Look FolderFault → Type 0
Looks files generation (Ok look) =
    CommitTells (commit_file files generation) look × (is_too_large files generation ≡ false) × IfSome (commit_file files generation) IsBytes
Looks files generation (Err (FileTooLarge kind)) = (kind ≡ kinds.Commit) × (is_too_large files generation ≡ true)
Looks files generation (Err NoIndex) = ⊥
Looks files generation (Err (NotStanding other fault)) = ⊥
Looks files generation (Err Failed) = Unit {0}
Looks files generation (Err OutOfMemory) = Unit {0}

-- a look answers no such fault as a choice does
abbrev pub IsLookFault : FolderFault → Type 0
IsLookFault NoIndex = ⊥
IsLookFault (NotStanding generation fault) = ⊥
IsLookFault (FileTooLarge kind) = Unit {0}
IsLookFault Failed = Unit {0}
IsLookFault OutOfMemory = Unit {0}

-- so many of the first commits are passed over
abbrev pub ArePassed : Files → List ℕ → ℕ → Type 0
ArePassed files generations count = (k : ℕ) → k < count → IsPassedOver files (slice_index generations k)

-- what looks at the commits of these generations answer, one after another
abbrev pub Walks : Files → List ℕ → Result Chosen FolderFault → Type 0
Walks files generations (Ok chosen) =
    (place : ℕ) × (place < length generations) × (slice_index generations place ≡ chosen.generation)
    × IsGoodCommit files chosen.generation chosen.commit × (is_too_large files chosen.generation ≡ false) × ArePassed files generations place
Walks files generations (Err NoIndex) = length generations ≡ 0
Walks files generations (Err (FileTooLarge kind)) =
    (kind ≡ kinds.Commit)
    × ((place : ℕ) × (place < length generations) × (is_too_large files (slice_index generations place) ≡ true) × ArePassed files generations place)
Walks files generations (Err (NotStanding generation fault)) =
    (0 < length generations) × (slice_index generations 0 ≡ generation) × HasFault files generation fault
    × ArePassed files generations (length generations)
Walks files generations (Err Failed) = Unit {0}
Walks files generations (Err OutOfMemory) = Unit {0}

-- the first of two faults, where there is one before
abbrev pub first_commit_fault : Option (ℕ × Spot) → ℕ × Spot → Option (ℕ × Spot)
first_commit_fault None fault = Some fault
first_commit_fault (Some first) fault = Some first

-- the fault of the first commit, once one was looked at
abbrev pub IsFirst : Files → List ℕ → ℕ → Option (ℕ × Spot) → Type 0
IsFirst files generations count None = count ≡ 0
IsFirst files generations count (Some first) =
    (0 < count) × (slice_index generations 0 ≡ first.0) × IsFaulty (commit_file files first.0) first.1

-- a fault is kept exactly once one commit was looked at
abbrev pub IsSeen : ℕ → Option (ℕ × Spot) → Type 0
IsSeen count None = count ≡ 0
IsSeen count (Some first) = 0 < count
