-- A folder that tells its files.
use Rattle.std.specs.Prelude.{ℕ, List, Option, refl}
use Rattle.std.specs.Coded.{Coded, code_by, coded_ℕ, coded_list, coded_option, coded×}
use Rattle.lu_dir.specs.Files.{Files}
use Rattle.lu_dir.specs.FileMap.{files_code}

-- the files of a folder, and the path last asked for
pub record Folder : Type 0 where
  pub files : Files
  pub asked : Option (List ℕ)

-- a folder is stored as the pair of its files and its path
abbrev pub folder_code : Coded Folder
folder_code = code_by (Files × Option (List ℕ)) (coded× files_code (coded_option (coded_list coded_ℕ))) (λ folder. (folder.files, folder.asked)) (λ pair. record { files = pair.0; asked = pair.1 }) (λ _. refl)
