-- A level as the writer makes it, out of the marks of the lowest level and the child pointers that the level below gave.
use Rattle.std.specs.Prelude.{◌≡◌, ◌<◌, ◌^◌, ℕ, zero, suc, ◌+◌, ◌-◌, ◌*◌, ◌/◌, ◌%◌, Bool, List, [], ◌∷◌, ◌++◌, length, Option, Some, None, ◌==◌, if◌then◌else◌, slice_index_or, slice_index}
use Rattle.freq_skips.specs.declared.datum.Skip.{Skip}
use Rattle.freq_skips.specs.declared.writer.Mark.{Mark}
use Rattle.freq_skips.specs.declared.writer.LevelInput.{LevelInput}
use Rattle.freq_skips.specs.Written.{Handed, no_mark, mark_of, skip_between, bytes_to_child, datum_bytes, with_level_length}

-- a level as it is written: the marks of the lowest level, of which it has one in so many, and the child pointers of its data
pub record LevelMarks : Type 0 where
  pub payloads : Bool
  pub marks : List Mark
  pub interval : ℕ
  pub number : ℕ
  pub step : ℕ
  pub children : List ℕ

-- where so many data of a level lead
abbrev pub marked_after : LevelMarks → ℕ → Mark
marked_after r m = if m == 0 then no_mark else slice_index_or r.marks (m * r.step - 1) no_mark

-- the child pointer of the datum that follows so many: the lowest level has none
abbrev pub pointed_after : LevelMarks → ℕ → Option ℕ
pointed_after r m = if r.number == 0 then None else Some (slice_index r.children m)

-- the datum that follows so many
abbrev pub marked_skip : LevelMarks → ℕ → Skip
marked_skip r m = skip_between r.payloads (marked_after r m) (marked_after r (suc m)) (pointed_after r m)

-- so many data of a level
unfoldable pub marked_bytes : LevelMarks → ℕ → List ℕ
marked_bytes r zero = []
marked_bytes r (suc m) = marked_bytes r m ++ datum_bytes (marked_skip r m)

-- the places in the level, just after the ProxSkip, of every so manieth of them: the child pointers of the level above
unfoldable pub places_after : LevelMarks → ℕ → List ℕ
places_after r zero = []
places_after r (suc m) = if suc m % r.interval == 0 then places_after r m ++ (length (marked_bytes r m) + length (bytes_to_child (marked_skip r m))) ∷ [] else places_after r m

-- how many data a level has
abbrev pub marked_count : LevelMarks → ℕ
marked_count r = length r.marks / r.step

-- the level above
abbrev pub marked_above : LevelMarks → LevelMarks
marked_above r = record { payloads = r.payloads; marks = r.marks; interval = r.interval; number = suc r.number; step = r.step * r.interval; children = places_after r (marked_count r) }

-- so many levels from this one on, the highest first
unfoldable pub marked_levels : ℕ → LevelMarks → List ℕ
marked_levels zero r = []
marked_levels (suc k) r = marked_levels k (marked_above r) ++ with_level_length r.number (marked_bytes r (marked_count r))

-- the lowest level
abbrev pub lowest_marks : Bool → List Mark → ℕ → LevelMarks
lowest_marks payloads marks interval = record { payloads = payloads; marks = marks; interval = interval; number = 0; step = 1; children = [] }

-- documents and lengths that data can tell
abbrev pub AreSmallMarks : List Mark → Type 0
AreSmallMarks marks = (k : ℕ) → k < length marks → ((slice_index_or marks k no_mark).doc < 2 ^ 31) × ((slice_index_or marks k no_mark).freq < 2 ^ 31)

-- child pointers that data can tell
abbrev pub AreSmallPlaces : List ℕ → Type 0
AreSmallPlaces places = (k : ℕ) → slice_index places k < 2 ^ 63

-- a level by its parts
abbrev pub level_marks : Bool → List Mark → ℕ → ℕ → ℕ → List ℕ → LevelMarks
level_marks payloads marks interval number step children = record { payloads = payloads; marks = marks; interval = interval; number = number; step = step; children = children }

-- these are the marks of the lowest level for some entries
pub record HasMarks (omit : Bool) (interval : ℕ) (entries : List Handed) (marks : List Mark) : Type 0 where
  pub count : length marks ≡ length entries / interval
  pub are : (j : ℕ) → j < length marks → slice_index_or marks j no_mark ≡ mark_of omit entries (suc j * interval - 1)

-- the marks that a level is made of, as the code has them
abbrev pub marks_of_input : LevelInput → LevelMarks
marks_of_input l = level_marks l.payloads l.marks.now l.interval l.number l.step l.children.now
