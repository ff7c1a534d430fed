-- The files of a segment among those that were found: none is too long, and each is made of bytes.
use Rattle.std.proofs.Common.{◌≤◌, ℕ, zero, suc, Bool, true, false, List, [], ◌∷◌, length, map, All, cond, Option, Some, None, arith}
use Rattle.std.specs.Prelude.{option_and_then}
use Rattle.std.specs.Option.{ForSome}
use Rattle.std.specs.Str.{bytes_eq}
use Rattle.std.proofs.lemmas.List.Elements.{All-head, All-tail}
use Rattle.lu_grammar.specs.Bytes.{IsBytes}
use Rattle.lu_dir.specs.Loading.{IsLoadable, found_at}
use Rattle.lu_types.specs.declared.kind.FileKind.{FileKind}
use Rattle.lu_types.specs.declared.kind.FileKind.TheVariants as kinds
use Rattle.segment_infos.specs.declared.infos.SegInfo.{SegInfo}
use Rattle.segment_infos.specs.declared.naming.LuceneName.{LuceneName}
use Rattle.segment_infos.specs.LuceneNames.{name_spelling}
use Rattle.lu_folder.specs.Limits.{file_limit}
use Rattle.check_index.specs.Files.{file_at, IsShort, AreShort, AreBytes}
use Rattle.lu_reads.specs.Naming.{file_name}
use Rattle.lu_reads.specs.Finding.{file_among, files_among}
use Rattle.lu_reads.proofs.FilesSayLemmas.{held}

-- no file may be loaded
nothing : IsLoadable file_limit None
nothing = record { bytes = tt; within = tt }

-- one of two files that may be loaded
one_of : (first : Bool) (file other : Option (List ℕ)) → IsLoadable file_limit file → IsLoadable file_limit other → IsLoadable file_limit (cond first file other)
one_of true file other here there = here
one_of false file other here there = there

-- what was found beside a name may be loaded
found-loadable : (names : List (List ℕ)) (found : List (Option (List ℕ))) (asked : List ℕ) → All (IsLoadable file_limit) found → IsLoadable file_limit (found_at names found asked)
found-loadable [] found asked each = nothing
found-loadable (name ∷ names) [] asked each = nothing
found-loadable (name ∷ names) (file ∷ rest) asked each =
    one_of (bytes_eq asked name) file (found_at names rest asked) (All-head (IsLoadable file_limit) file rest each) (found-loadable names rest asked (All-tail (IsLoadable file_limit) file rest each))

-- a file that may be loaded has as many bytes as a file may have
short : (file : Option (List ℕ)) → IsLoadable file_limit file → IsShort file
short None loadable = tt
short (Some bytes) loadable = let within : length bytes ≤ 2147483647 = loadable.within in omega arith

-- so may each of the files of norms of their own
each-loadable : (file : ℕ → Option (List ℕ)) → ((field : ℕ) → IsLoadable file_limit (file field)) → (fields : List ℕ) (place : ℕ) → IsLoadable file_limit (file_at (map file fields) place)
each-loadable file each [] place = nothing
each-loadable file each (field ∷ fields) zero = each field
each-loadable file each (field ∷ fields) (suc place) = each-loadable file each fields place

module _ (names : List (List ℕ)) (found : List (Option (List ℕ))) (line : SegInfo) (each : All (IsLoadable file_limit) found) where
  -- the file of a kind may be loaded
  file-loadable : (kind : FileKind) → IsLoadable file_limit (file_among names found line kind)
  file-loadable kind = go (file_name line kind)
    where
      go : (name : Option LuceneName) → IsLoadable file_limit (option_and_then (λ n. found_at names found (name_spelling n)) name)
      go None = nothing
      go (Some n) = found-loadable names found (name_spelling n) each

  short-file : (kind : FileKind) → IsShort (file_among names found line kind)
  short-file kind = short (file_among names found line kind) (file-loadable kind)

  held-file : (kind : FileKind) → ForSome (file_among names found line kind) IsBytes
  held-file kind = held (file_among names found line kind) (file-loadable kind)

  -- no file is too long
  pub files-short : AreShort (files_among names found line)
  files-short = record {
    cfs = short-file kinds.Cfs;
    cfx = short-file kinds.Cfx;
    parts = record {
      tis = short-file kinds.Tis;
      frq = short-file kinds.Frq;
      prx = short-file kinds.Prx;
      fdx = short-file kinds.Fdx;
      tvx = short-file kinds.Tvx;
      tvd = short-file kinds.Tvd;
      tvf = short-file kinds.Tvf;
    };
  }

  -- each is made of bytes
  pub files-bytes : AreBytes (files_among names found line)
  files-bytes = record {
    cfs = held-file kinds.Cfs;
    cfx = held-file kinds.Cfx;
    index = record {
      fnm = held-file kinds.Fnm;
      tis = held-file kinds.Tis;
      tii = held-file kinds.Tii;
      frq = held-file kinds.Frq;
      prx = held-file kinds.Prx;
      nrm = held-file kinds.Nrm;
    };
    documents = record {
      fdx = held-file kinds.Fdx;
      fdt = held-file kinds.Fdt;
      tvx = held-file kinds.Tvx;
      tvd = held-file kinds.Tvd;
      tvf = held-file kinds.Tvf;
    };
    separate = λ place. held _ (each-loadable (λ field. file_among names found line (kinds.Sep field)) (λ field. file-loadable (kinds.Sep field)) _ place);
    del = held-file kinds.Del;
  }
