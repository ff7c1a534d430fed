-- The records of a compound file, and what they stand for (format page, "Compound files").
use Rattle.std.specs.Prelude.{ℕ, ◌+◌, ◌-◌, Bool, not, ◌&&◌, ◌||◌, ◌==◌, List, [], ◌∷◌, ◌++◌, length, is_some, ℤ, pos, negsuc, int_lt}
use Rattle.lu_grammar.specs.Parts.{int64, num, text, bytes as so_many, spelling}
use Rattle.lu_grammar.specs.Records.{Shape, whole, part, Condition}
use Rattle.lu_grammar.specs.Plans.{Plan, done, due, and_then, Kind, times, in_turn}
use Rattle.lu_types.specs.RuleNumbers as rules
use Rattle.compound_file.specs.Entries.{NamedPart, PartEntry, PartSpan, entry_number_of, first_start, last_start, spans}

-- a record of the file: how many parts it has, an entry of the directory, or the bytes of a part
pub data CfsRecord : Type 0 where
  header : ℕ → CfsRecord
  entry : (offset : ℤ) → (name : List ℕ) → CfsRecord
  content : List ℕ → CfsRecord

-- how many parts there are
abbrev pub header_shape : Shape CfsRecord
header_shape = part num (λ n. whole (header n))

-- where a part starts, and its name
abbrev pub entry_shape : Shape CfsRecord
entry_shape = part int64 (λ offset. part text (λ name. whole (entry offset name)))

-- so many bytes of a part
abbrev pub content_shape : ℕ → Shape CfsRecord
content_shape n = part (so_many n) (λ front. whole (content front))

-- the number that the record states
abbrev pub part_count_of : CfsRecord → ℕ
part_count_of (header n) = n
part_count_of _ = 0

-- the bytes that the record holds
abbrev pub part_content_of : CfsRecord → List ℕ
part_content_of (content front) = front
part_content_of _ = []

-- the place that an offset means
abbrev pub place_of : ℤ → ℕ
place_of (pos n) = n
place_of (negsuc n) = 0

-- the entries, and one more
abbrev pub with_part_entry : List PartEntry → CfsRecord → List PartEntry
with_part_entry entries (entry offset name) = entries ++ record { name = name; start = place_of offset } ∷ []
with_part_entry entries _ = entries

-- the place just after an entry that starts at a place
abbrev pub after_entry : ℕ → ℤ → List ℕ → ℕ
after_entry place offset name = place + length (spelling int64 offset ++ spelling text name)

-- the offset is below the one before, which is 0 for the first, or over the length of the file
abbrev pub is_misplaced : ℕ → List PartEntry → ℤ → Bool
is_misplaced size before offset = int_lt offset (pos (last_start 0 before)) || int_lt (pos size) offset

-- the entry is the last of so many, and the first part does not start just after it
abbrev pub is_apart : ℕ → List PartEntry → ℤ → ℕ → Bool
is_apart count before offset after = (length before + 1 == count) && not (first_start (place_of offset) before == after)

-- what an entry after those before it, and with a place just after it, may not be
abbrev pub conditions_after : ℕ → ℕ → List PartEntry → ℕ → ℤ → List ℕ → List Condition
conditions_after size count before after offset name =
    record { rule = rules.cfs_offset; broken = is_misplaced size before offset } ∷ record { rule = rules.cfs_twice; broken = is_some (entry_number_of name before) }
    ∷ record { rule = rules.cfs_first; broken = is_apart count before offset after } ∷ []

-- the same of a record that is an entry
abbrev pub entry_conditions : ℕ → ℕ → List PartEntry → ℕ → CfsRecord → List Condition
entry_conditions size count before place (entry offset name) = conditions_after size count before (after_entry place offset name) offset name
entry_conditions size count before place _ = []

-- an entry of a directory of so many, in a file of so many bytes
abbrev pub entry_kind : ℕ → ℕ → Kind (List PartEntry) CfsRecord
entry_kind size count = record { shape = λ _. entry_shape; conditions = entry_conditions size count; after = λ before _ r. with_part_entry before r }

-- the bytes of a part
abbrev pub part_plan : PartSpan → Plan NamedPart CfsRecord
part_plan span = due (content_shape (span.end - span.start)) (λ _ _. []) (λ _ r. done (record { name = span.name; bytes = part_content_of r }))

-- the parts that a directory names, one after another
abbrev pub parts_plan : ℕ → List PartEntry → Plan (List NamedPart) CfsRecord
parts_plan size entries = in_turn part_plan (spans size entries)

-- a file of so many bytes: how many parts it has, an entry for each, and then the bytes of each
abbrev pub cfs_plan : ℕ → Plan (List NamedPart) CfsRecord
cfs_plan size = due header_shape (λ _ _. []) (λ _ r. and_then (times (entry_kind size (part_count_of r)) (part_count_of r) []) (parts_plan size))
