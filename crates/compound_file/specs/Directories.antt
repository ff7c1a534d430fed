-- What the program keeps of a directory.
use Rattle.std.specs.Prelude.{◌≡◌, ℕ, ◌+◌, ◌<◌, ◌≤◌, List, length, None}
use Rattle.std.specs.BTreeMap.{BTreeMap, get_by}
use Rattle.std.specs.Borrow.{Bor}
use Rattle.std.specs.Cmp.Lexicographic.{slice_cmp}
use Rattle.std.specs.Ordering.{nat_cmp}
use Rattle.compound_file.specs.declared.entry.DirectoryEntry.{DirectoryEntry}
use Rattle.compound_file.specs.Entries.{PartEntry, entry_number_of, first_start, last_start, Rise}

-- an entry of the program, as contracts see it
abbrev pub part_entry_of : DirectoryEntry → PartEntry
part_entry_of e = record { name = e.name.now; start = e.start }

-- the map gives each name the number of its entry, and no other name a number
abbrev pub HasEntryNumbers : BTreeMap (Bor (List ℕ)) ℕ → List PartEntry → Type 0
HasEntryNumbers numbers entries = (name : List ℕ) → get_by (λ key. slice_cmp nat_cmp name key.now) numbers ≡ entry_number_of name entries

-- a good entry of so many, after those before it and with a place just after it: it starts in the file and not before the one in front of it,
-- its name is new, and where it is the last the first part starts just after it
pub record IsGoodEntry (size count : ℕ) (before : List PartEntry) (e : PartEntry) (after : ℕ) : Type 0 where
  pub rises : last_start 0 before ≤ e.start
  pub within : e.start ≤ size
  pub new : entry_number_of e.name before ≡ None
  pub closed : length before + 1 ≡ count → first_start e.start before ≡ after

-- the entries so far of a directory of so many, with a place just after them: they rise, and where they are all the first part starts just after them
pub record AreGoodEntries (size count : ℕ) (entries : List PartEntry) (after : ℕ) : Type 0 where
  pub rise : Rise 0 size entries
  pub closed : 0 < length entries → length entries ≡ count → first_start 0 entries ≡ after
