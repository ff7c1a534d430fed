-- What a commit that fails keeps of the folder.
use Rattle.std.specs.Prelude.{◌≡◌, ◌≢◌, ◌⊎◌, ◌↔◌, ℕ, ◌^◌, ◌<◌, ◌≤◌, List, Option, Some, None, Result, Ok, Err, Contains}
use Rattle.lu_dir.specs.Files.{Files, contents}
use Rattle.lu_dir.specs.declared.fail.DirFail.{DirFail}
use Rattle.segment_infos.specs.Values.{CommitValue}
use Rattle.lu_folder.specs.declared.new_file.NewFile.{NewFile}
use Rattle.lu_folder.specs.ChangeValues.{ChangeValue, commit_name}
use Rattle.lu_folder.specs.Changes.{written}
use Rattle.lu_folder.specs.Commits.{commit_file, IsCurrent, IsNewest}

-- the numbers of the change are new: no file has one of its names, or is a commit of its generation or a greater one; new files
-- are no commits, two of one name are one, and nothing that is written is removed
pub record IsFreshChange (change : ChangeValue) (files : Files) : Type 0 where
  pub absent : (file : NewFile) → Contains change.files file → contents files file.name ≡ None
  pub greatest : (generation : ℕ) → change.generation ≤ generation → generation < 2 ^ 63 → commit_file files generation ≡ None
  pub no_commit : (file : NewFile) → Contains change.files file → (generation : ℕ) → file.name ≢ commit_name generation
  pub one : (file other : NewFile) → Contains change.files file → Contains change.files other
      → file.name ≡ other.name → file ≡ other
  pub kept : (file : NewFile) → Contains (written change) file → ¬ Contains change.removable file.name

-- every file of the folder is as before
abbrev pub AreKept : Files → Files → Type 0
AreKept old new = (name : List ℕ) → contents old name ≢ None → contents new name ≡ contents old name

-- each file that the folder lacked has a new name
abbrev pub AddsOnly : ChangeValue → Files → Files → Type 0
AddsOnly change old new = (name : List ℕ) → contents old name ≡ None
    → (contents new name ≡ None) ⊎ ((file : NewFile) × Contains (written change) file × (file.name ≡ name))

-- the folder reads as before: every file is as before, and so is the current commit, or that there is none
pub record IsOld (old new : Files) : Type 0 where
  pub kept : AreKept old new
  pub current : (generation : ℕ) (commit : CommitValue) → IsCurrent new generation commit ↔ IsCurrent old generation commit

-- the folder reads as the new commit, whose files are whole; every file that is of use is as before
pub record IsNew (change : ChangeValue) (old new : Files) : Type 0 where
  pub current : IsCurrent new change.generation change.commit
  pub newest : IsNewest new change.generation
  pub whole : (file : NewFile) → Contains change.files file → contents new file.name ≡ Some file.bytes
  pub kept : (name : List ℕ) → contents old name ≢ None → ¬ Contains change.removable name
      → contents new name ≡ contents old name

-- what a call that makes the commit keeps: after an error every file is as before, and the folder reads as before or as the new
-- commit; else it reads as the new commit
abbrev pub Keeps : ChangeValue → Result (Option DirFail) DirFail → Files → Files → Type 0
Keeps change (Err fail) old new = AddsOnly change old new × AreKept old new × (IsOld old new ⊎ IsNew change old new)
Keeps change (Ok behind) old new = AddsOnly change old new × IsNew change old new

-- the file is a new one, whole; or it is as before, there or not
abbrev pub IsWholeOrSame : ChangeValue → Files → Files → List ℕ → Type 0
IsWholeOrSame change old new name =
    ((file : NewFile) × Contains change.files file × (file.name ≡ name) × (contents new file.name ≡ Some file.bytes))
    ⊎ (contents new name ≡ contents old name)
