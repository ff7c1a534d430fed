-- The files of a segment packed into one: which parts, in which order, and their bytes (format page, "Compound files").
use Rattle.std.specs.Prelude.{ℕ, ◌+◌, Bool, ◌&&◌, ◌==◌, List, [], ◌∷◌, ◌++◌, length, map, find, filter_map, flat_map, sum_by, Option, pos}
use Rattle.lu_grammar.specs.Parts.{int64, num, text, spelling}
use Rattle.lu_types.specs.declared.kind.FileKind.{FileKind}
use Rattle.lu_types.specs.declared.named_file.NamedFile.{NamedFile}
use Rattle.lu_types.specs.Kinds.{turn, part_kinds}
use Rattle.lu_types.specs.Names.{segment_name, part_name}
use Rattle.compound_file.specs.Entries.{NamedPart}

-- files of the two kinds are checked in one turn, so they are one kind
abbrev pub is_same : FileKind → FileKind → Bool
is_same a b = ((turn a).0 == (turn b).0) && ((turn a).1 == (turn b).1)

-- the file of the kind; none where there is none
abbrev pub file_of : List NamedFile → FileKind → Option NamedFile
file_of files kind = find (λ file. is_same file.kind kind) files

-- the part that a file of the segment with a name becomes: its name is that of the segment, and the extension
abbrev pub packed_in : List ℕ → NamedFile → NamedPart
packed_in segment file = record { name = part_name segment file.kind; bytes = file.bytes }

-- the files that are parts, in the order in which they are checked
abbrev pub packed_parts : ℕ → List NamedFile → List NamedPart
packed_parts number files = map (packed_in (segment_name number)) (filter_map (file_of files) part_kinds)

-- how many bytes the entry of a part takes: those of an offset, and its name
abbrev pub entry_size : NamedPart → ℕ
entry_size part = 8 + length (spelling text part.name)

-- how many bytes the directory of some parts takes
abbrev pub directory_size : List NamedPart → ℕ
directory_size parts = length (spelling num (length parts)) + sum_by entry_size parts

-- the entries of some parts whose bytes stand one after another, from a place on
abbrev pub entries_bytes : ℕ → List NamedPart → List ℕ
entries_bytes start [] = []
entries_bytes start (part ∷ parts) = spelling int64 (pos start) ++ spelling text part.name ++ entries_bytes (start + length part.bytes) parts

-- the bytes of some parts, one after another, and how many they are
abbrev pub part_contents : List NamedPart → List ℕ
part_contents parts = flat_map (λ part. part.bytes) parts

abbrev pub contents_size : List NamedPart → ℕ
contents_size parts = sum_by (λ part. length part.bytes) parts

-- the one spelling of some parts: how many there are, an entry for each, and then the bytes of each
abbrev pub cfs_bytes : List NamedPart → List ℕ
cfs_bytes parts = spelling num (length parts) ++ entries_bytes (directory_size parts) parts ++ part_contents parts
