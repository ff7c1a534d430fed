-- The good commits of a folder, the current one and the newest (docs/FORMAT.md, "Commits in a folder").
use Rattle.std.specs.Prelude.{◌≡◌, ◌≢◌, ℕ, ◌<◌, ◌^◌, List, Option, Some, None}
use Rattle.lu_grammar.specs.Meaning.{Reads}
use Rattle.lu_dir.specs.Files.{Files, contents}
use Rattle.segment_infos.specs.Values.{CommitValue}
use Rattle.segment_infos.specs.Format.{commit_plan}
use Rattle.segment_infos.specs.LuceneNames.{IsGenerationNumber}
use Rattle.lu_folder.specs.ChangeValues.{commit_name}

-- the file of the commit of this generation, where there is one
abbrev pub commit_file : Files → ℕ → Option (List ℕ)
commit_file files generation = contents files (commit_name generation)

-- the file is there, is a good commit, and says this
abbrev pub Says : Option (List ℕ) → CommitValue → Type 0
Says None commit = ⊥
Says (Some bytes) commit = Reads (commit_plan bytes) bytes commit

-- the commit of this generation is good, and says this
pub record IsGoodCommit (files : Files) (generation : ℕ) (commit : CommitValue) : Type 0 where
  pub is : IsGenerationNumber generation
  pub says : Says (commit_file files generation) commit

-- the current commit is of this generation and says this: it is good, and none of a greater generation is
pub record IsCurrent (files : Files) (generation : ℕ) (commit : CommitValue) : Type 0 where
  pub good : IsGoodCommit files generation commit
  pub last : (later : ℕ) (other : CommitValue) → generation < later → ¬ IsGoodCommit files later other

-- there is a file of a commit of this generation
pub record HasCommitFile (files : Files) (generation : ℕ) : Type 0 where
  pub is : IsGenerationNumber generation
  pub there : commit_file files generation ≢ None

-- the greatest generation of which there is a commit, good or not
pub record IsNewest (files : Files) (generation : ℕ) : Type 0 where
  pub here : HasCommitFile files generation
  pub last : (later : ℕ) → generation < later → ¬ HasCommitFile files later
