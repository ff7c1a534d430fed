-- The files that an ordered map holds.
use Rattle.std.specs.Prelude.{ℕ, List, map, Option, Some, None}
use Rattle.std.specs.Coded.{Coded, coded_ℕ, coded_list}
use Rattle.std.specs.declared.string.String.{String}
use Rattle.std.specs.declared.vec.Vec.{Vec}
use Rattle.std.specs.declared.alloc.Global.{Global}
use Rattle.std.specs.String.{string_bytes}
use Rattle.std.specs.BTreeMap.{BTreeMap}
use Rattle.std.specs.FinMap.{from_entries, code}
use Rattle.lu_dir.specs.Files.{Files, with_file}

-- the names and bytes that the entries of a map stand for
abbrev pub named_bytes : List (String Global × Vec ℕ Global) → List (List ℕ × List ℕ)
named_bytes entries = map (λ entry. (string_bytes entry.0, entry.1.items)) entries

-- the files that a map holds
abbrev pub files_of : BTreeMap (String Global) (Vec ℕ Global) → Files
files_of held = from_entries (named_bytes held.entries)

-- files are stored as the list of their names and bytes
abbrev pub files_code : Coded Files
files_code = code (coded_list coded_ℕ) (coded_list coded_ℕ)

-- the elements of a vector of bytes
abbrev pub items_of : Vec ℕ Global → List ℕ
items_of bytes = bytes.items

-- the files with this one made or replaced, where its bytes were found
abbrev pub with_found : List ℕ → Option (List ℕ) → Files → Files
with_found name None files = files
with_found name (Some bytes) files = with_file name bytes files
