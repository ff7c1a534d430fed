-- New files whose names are not among those of a folder.
use Rattle.std.specs.Prelude.{◌≡◌, ℕ, List, Contains}
use Rattle.segment_infos.specs.declared.naming.LuceneName.{LuceneName}
use Rattle.segment_infos.specs.LuceneNames.{SpellsName}
use Rattle.segment_infos.specs.Parsing.{IsFile}
use Rattle.lu_folder.specs.declared.new_file.NewFile.{NewFile}

-- each is named as a file of a segment is, and not listed; two of one name are one
pub record AreNewFiles (names : List (List ℕ)) (files : List NewFile) : Type 0 where
  pub named : (file : NewFile) → Contains files file → (name : LuceneName) × SpellsName file.name name × IsFile name
  pub unlisted : (file : NewFile) → Contains files file → ¬ Contains names file.name
  pub one : (file other : NewFile) → Contains files file → Contains files other → file.name ≡ other.name → file ≡ other
