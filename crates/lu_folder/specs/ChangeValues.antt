-- What a commit is to make of a folder.
use Rattle.std.specs.Prelude.{ℕ, List}
use Rattle.segment_infos.specs.declared.naming.LuceneName.TheVariants.{Commit}
use Rattle.segment_infos.specs.LuceneNames.{name_spelling}
use Rattle.segment_infos.specs.Values.{CommitValue}
use Rattle.lu_folder.specs.declared.new_file.NewFile.{NewFile}

-- new files, the generation of the commit and what it says, and the names that it leaves without use
pub record ChangeValue : Type 0 where
  pub files : List NewFile
  pub generation : ℕ
  pub commit : CommitValue
  pub removable : List (List ℕ)

-- the name of the commit of this generation
abbrev pub commit_name : ℕ → List ℕ
commit_name generation = name_spelling (Commit generation)
