-- The parts of a compound file, and the entries of its directory (format page, "Compound files").
use Rattle.std.specs.Prelude.{◌≢◌, ℕ, ◌^◌, ◌<◌, ◌≤◌, List, [], ◌∷◌, Option, length, position, find, map, option_map, slice_range, All, AllPairs}
use Rattle.lu_grammar.specs.Bytes.{IsBytes}
use Rattle.lu_grammar.specs.Parts.{text, IsValue}
use Rattle.std.specs.Str.{bytes_eq}

-- a part: its name outside a compound file, and its bytes
pub record NamedPart : Type 0 where
  pub name : List ℕ
  pub bytes : List ℕ

-- the bytes of the part with the name; none where no part has it
abbrev pub part_named : List ℕ → List NamedPart → Option (List ℕ)
part_named name parts = option_map (λ part. part.bytes) (find (λ part. bytes_eq name part.name) parts)

-- these parts can be in one file: there are fewer than 2^31, each name is a text that a file can hold, no two are one, and what they hold is bytes
pub record AreParts (parts : List NamedPart) : Type 0 where
  pub few : length parts < 2 ^ 31
  pub named : All (λ part. IsValue text part.name) parts
  pub apart : AllPairs (λ name later. name ≢ later) (map (λ part. part.name) parts)
  pub bytes : All (λ part. IsBytes part.bytes) parts

-- an entry of the directory: the name of a part, and where its bytes start in the file
pub record PartEntry : Type 0 where
  pub name : List ℕ
  pub start : ℕ

-- the number of the entry with the name, from 0; none where no entry has it
abbrev pub entry_number_of : List ℕ → List PartEntry → Option ℕ
entry_number_of name entries = position (λ entry. bytes_eq name entry.name) entries

-- where the first part starts; another place where there is none
abbrev pub first_start : ℕ → List PartEntry → ℕ
first_start other [] = other
first_start other (entry ∷ entries) = entry.start

-- where the last part starts; another place where there is none
abbrev pub last_start : ℕ → List PartEntry → ℕ
last_start other [] = other
last_start other (entry ∷ entries) = last_start entry.start entries

-- from a place on no part starts before the one in front of it, or after the end
abbrev pub Rise : ℕ → ℕ → List PartEntry → Type 0
Rise from end [] = from ≤ end
Rise from end (entry ∷ entries) = (from ≤ entry.start) × Rise entry.start end entries

-- where a part stands: its name, where its bytes start, and the place just after them
pub record PartSpan : Type 0 where
  pub name : List ℕ
  pub start : ℕ
  pub end : ℕ

-- where the parts stand that a directory names, in a file of so many bytes: each reaches to the start of the next, the last to the end
abbrev pub spans : ℕ → List PartEntry → List PartSpan
spans size [] = []
spans size (entry ∷ entries) = record { name = entry.name; start = entry.start; end = first_start size entries } ∷ spans size entries

-- the part that stands there
abbrev pub part_at : List ℕ → PartSpan → NamedPart
part_at bytes span = record { name = span.name; bytes = slice_range bytes span.start span.end }

-- the parts that a directory names
abbrev pub parts_in : List ℕ → List PartEntry → List NamedPart
parts_in bytes entries = map (part_at bytes) (spans (length bytes) entries)
