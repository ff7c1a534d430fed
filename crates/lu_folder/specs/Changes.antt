-- What a commit makes of a folder, and what a failure on the way may leave.
use Rattle.std.specs.Prelude.{◌≡◌, ◌⊎◌, ℕ, List, [], ◌∷◌, ◌++◌}
use Rattle.lu_dir.specs.Files.{Files, with_file}
use Rattle.segment_infos.specs.Spelling.{commit_bytes, pending}
use Rattle.lu_folder.specs.declared.new_file.NewFile.{NewFile}
use Rattle.lu_folder.specs.Writing.{with_new_files, WritesOnly}
use Rattle.lu_folder.specs.Sweeping.{without_files, RemovesOnly}
use Rattle.lu_folder.specs.ChangeValues.{ChangeValue, commit_name}

-- the commit's own file in its pending form
abbrev pub pending_file : ChangeValue → NewFile
pending_file change = record { name = commit_name change.generation; bytes = pending (commit_bytes change.commit) }

-- the files that are written before the commit is sealed
abbrev pub written : ChangeValue → List NewFile
written change = change.files ++ pending_file change ∷ []

-- the folder once the commit is sealed, with nothing removed
abbrev pub sealed : ChangeValue → Files → Files
sealed change files = with_file (commit_name change.generation) (commit_bytes change.commit) (with_new_files change.files files)

-- the folder after the commit
abbrev pub committed : ChangeValue → Files → Files
committed change files = without_files change.removable (sealed change files)

-- the commit is not made: nothing changed but the new files and its own, which are begun
abbrev pub IsUnmade : ChangeValue → Files → Files → Type 0
IsUnmade change old new = WritesOnly (written change) old new

-- the commit is made: nothing else changed but that names without use may be gone
abbrev pub IsMade : ChangeValue → Files → Files → Type 0
IsMade change old new = RemovesOnly change.removable (sealed change old) new

-- what is left where the commit was stopped: it is not made, or it is made and nothing is removed
abbrev pub IsStopped : ChangeValue → Files → Files → Type 0
IsStopped change old new = IsUnmade change old new ⊎ (new ≡ sealed change old)
