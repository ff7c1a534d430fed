-- Which indexes a folder stands for, as `check` judges it (docs/FORMAT.md, "How a fault is found").
use Rattle.std.specs.Prelude.{◌≡◌, ◌⊎◌, ℕ, List, [], ◌∷◌, Option, Some}
use Rattle.std.specs.List.{AllZip}
use Rattle.lu_dir.specs.Files.{Files}
use Rattle.lu_types.specs.declared.document.Document.{Document}
use Rattle.lu_model.specs.Index.{Index}
use Rattle.lu_model.specs.Contents.{index_of_documents}
use Rattle.segment_infos.specs.declared.infos.SegInfo.{SegInfo}
use Rattle.segment_infos.specs.Values.{CommitValue}
use Rattle.segment_files.specs.Lines.{StandsForIndex}
use Rattle.lu_folder.specs.Commits.{IsGoodCommit, IsCurrent, HasCommitFile, IsNewest}
use Rattle.lu_reads.specs.Finding.{AreRead, folder_files}

-- ---- what a folder stands for

-- what the folder has of the segment's files stands for the index
pub record StandsAs (files : Files) (line : SegInfo) (index : Index) : Type 0 where
  pub found : List (Option (List ℕ))
  pub read : AreRead (Some files) line found
  pub stands : StandsForIndex (folder_files line found) line index

-- so it is segment by segment
abbrev pub StandAs : Files → List SegInfo → List Index → Type 0
StandAs files lines indexes = AllZip (StandsAs files) lines indexes

-- the current commit of the folder stands for the indexes; a folder without a commit stands for none
abbrev pub CurrentStands : Files → List Index → Type 0
CurrentStands files indexes =
    ((generation : ℕ) × (commit : CommitValue) × IsCurrent files generation commit × StandAs files commit.segments indexes)
    ⊎ (((generation : ℕ) → ¬ HasCommitFile files generation) × (indexes ≡ []))

-- the newest commit of the folder is good, and stands for the indexes
pub record Stands (files : Files) (indexes : List Index) : Type 0 where
  pub generation : ℕ
  pub commit : CommitValue
  pub newest : IsNewest files generation
  pub good : IsGoodCommit files generation commit
  pub segments : StandAs files commit.segments indexes

-- ---- what documents add

-- the index of the documents, where there is any
abbrev pub indexes_of : List Document → List Index
indexes_of [] = []
indexes_of (doc ∷ docs) = index_of_documents (doc ∷ docs) ∷ []
