-- The files of a segment of a commit, as a command finds them (docs/FORMAT.md, "How a fault is found").
use Rattle.std.specs.Prelude.{◌≡◌, ℕ, List, [], length, map, All, Option, unwrap_or, option_and_then}
use Rattle.std.specs.Option.{ForSome}
use Rattle.std.specs.List.{range_with_len}
use Rattle.lu_dir.specs.Files.{Files, contents}
use Rattle.lu_dir.specs.Loading.{IsLoadable, found_at}
use Rattle.lu_types.specs.declared.kind.FileKind.{FileKind}
use Rattle.lu_types.specs.declared.kind.FileKind.TheVariants as kinds
use Rattle.segment_infos.specs.declared.infos.SegInfo.{SegInfo}
use Rattle.segment_infos.specs.LuceneNames.{name_spelling}
use Rattle.lu_folder.specs.Limits.{file_limit}
use Rattle.lu_folder.specs.Reading.{read_names}
use Rattle.check_index.specs.Files.{FolderFiles}
use Rattle.lu_reads.specs.Naming.{file_name}

-- the spellings of the names of the files that are read for a segment
abbrev pub spelled_names : SegInfo → List (List ℕ)
spelled_names line = map name_spelling (read_names line)

-- this was found of them, in order: what the folder has, if it tells its files; each is made of bytes and not too long
pub record AreRead (files : Option Files) (line : SegInfo) (found : List (Option (List ℕ))) : Type 0 where
  pub told : ForSome files (λ told. found ≡ map (contents told) (spelled_names line))
  pub each : All (IsLoadable file_limit) found

-- the file of a kind among those that were found beside these names
abbrev pub file_among : List (List ℕ) → List (Option (List ℕ)) → SegInfo → FileKind → Option (List ℕ)
file_among names found line kind = option_and_then (λ name. found_at names found (name_spelling name)) (file_name line kind)

-- the files by which the segment is checked, among those that were found beside these names
abbrev pub files_among : List (List ℕ) → List (Option (List ℕ)) → SegInfo → FolderFiles
files_among names found line = record {
  cfs = file_among names found line kinds.Cfs;
  cfx = file_among names found line kinds.Cfx;
  parts = record {
    index = record {
      fnm = file_among names found line kinds.Fnm;
      tis = file_among names found line kinds.Tis;
      tii = file_among names found line kinds.Tii;
      frq = file_among names found line kinds.Frq;
      prx = file_among names found line kinds.Prx;
      nrm = file_among names found line kinds.Nrm;
    };
    documents = record {
      fdx = file_among names found line kinds.Fdx;
      fdt = file_among names found line kinds.Fdt;
      tvx = file_among names found line kinds.Tvx;
      tvd = file_among names found line kinds.Tvd;
      tvf = file_among names found line kinds.Tvf;
    };
  };
  separate = map (λ field. file_among names found line (kinds.Sep field)) (range_with_len 0 (length (unwrap_or line.norm_gens [])));
  del = file_among names found line kinds.Del;
}

-- the files by which the segment is checked, where this was found of those that are read for it
abbrev pub folder_files : SegInfo → List (Option (List ℕ)) → FolderFiles
folder_files line found = files_among (spelled_names line) found line
