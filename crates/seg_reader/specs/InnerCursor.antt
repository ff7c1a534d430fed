-- What a cursor over the entries of a term stands for, and how its parts belong together.
use Rattle.std.specs.Prelude.{◌≡◌, ℕ, ◌+◌, ◌-◌, ◌≤◌, Bool, false, cond, List, [], length, map, drop, Option, Some, None, slice_index_or}
use Rattle.lu_types.specs.Occurrences.{Occurrence}
use Rattle.lu_model.specs.Index.{omitted, IndexedEntry}
use Rattle.freq_skips.specs.declared.rules.RuledTerm.{RuledTerm}
use Rattle.freq_skips.specs.Entries.{Posting, entry_of}
use Rattle.freq_skips.specs.Terms.{TermData}
use Rattle.freq_skips.specs.Points.{KnownTerm, most_steps}
use Rattle.positions.specs.Cursors.{IsAmong}
use Rattle.check_index.specs.Positions.{TermOccurrences}
use Rattle.check_index.specs.Indexed.{omitted_entry, given_entries}
use Rattle.seg_reader.specs.declared.scan.Scan.{Scan}
use Rattle.seg_reader.specs.declared.beside.Beside.{Beside}
use Rattle.seg_reader.specs.declared.place.Place.{Place}
use Rattle.seg_reader.specs.declared.place.Place.TheVariants.{Start, At, Within, End}
use Rattle.seg_reader.specs.InnerScan.{posting_in, IsScan}
use Rattle.seg_reader.specs.InnerBeside.{occurrences_read, IsBeside}
use Rattle.seg_reader.specs.Postings.{PostingsWalk, occurrences_kept}

-- the entries of a term in a field that omits occurrences, or that keeps these
abbrev pub entries_kept : Bool → List Posting → TermOccurrences → List IndexedEntry
entries_kept omits ps all = cond omits (map omitted_entry ps) (given_entries ps all)

-- the entries of a term, with the occurrences that these bytes of `.prx` stand for
abbrev pub entries_seen : RuledTerm → TermData → List ℕ → List IndexedEntry
entries_seen t value prx = entries_kept t.rules.omit_tf value.postings (occurrences_read t value prx)

-- no entry
abbrev pub no_entry : IndexedEntry
no_entry = record { document = 0; occurrences = omitted }

-- the entry with an index
abbrev pub entry_in : List IndexedEntry → ℕ → IndexedEntry
entry_in entries index = slice_index_or entries index no_entry

-- the first document that may be answered next, in a segment of so many
abbrev pub from_at : ℕ → Place → ℕ
from_at size Start = 0
from_at size (At e) = e.doc + 1
from_at size (Within e) = e.doc + 1
from_at size End = size

-- the entry where the cursor stands, of which so many are read
abbrev pub here_at : List IndexedEntry → ℕ → Place → Option IndexedEntry
here_at entries passed Start = None
here_at entries passed (At e) = Some (entry_in entries (passed - 1))
here_at entries passed (Within e) = Some (entry_in entries (passed - 1))
here_at entries passed End = None

-- the last so many
abbrev pub last_so_many : ℕ → List Occurrence → List Occurrence
last_so_many count all = drop (length all - count) all

-- the occurrences that were not answered yet, where so many of the open document are left
abbrev pub left_at : List IndexedEntry → ℕ → ℕ → Place → List Occurrence
left_at entries passed left Start = []
left_at entries passed left (At e) = occurrences_kept (entry_in entries (passed - 1)).occurrences
left_at entries passed left (Within e) = last_so_many left (occurrences_kept (entry_in entries (passed - 1)).occurrences)
left_at entries passed left End = []

-- the walk of a cursor
abbrev pub walk_at : Scan → Beside → Place → PostingsWalk
walk_at s b place = record {
  entries = entries_seen s.entries.term s.entries.value b.occurrences.prx;
  hidden = s.live.documents;
  from = from_at s.entries.term.rules.documents place;
  here = here_at (entries_seen s.entries.term s.entries.value b.occurrences.prx) s.passed place;
  left = left_at (entries_seen s.entries.term s.entries.value b.occurrences.prx) s.passed b.occurrences.left place;
  size = s.entries.term.rules.documents;
  search = most_steps s.entries.term;
  interval = s.entries.term.rules.skip_interval;
}

-- the entry where the cursor stands was read last
abbrev pub IsPlace : Scan → Place → Type 0
IsPlace s Start = s.passed ≡ 0
IsPlace s (At e) = (index : ℕ) × (s.passed ≡ index + 1) × (e ≡ entry_of (posting_in s.entries.value index))
IsPlace s (Within e) = (index : ℕ) × (s.passed ≡ index + 1) × (e ≡ entry_of (posting_in s.entries.value index))
    × (s.entries.term.rules.omit_tf ≡ false)
IsPlace s End = s.passed ≡ s.entries.term.info.doc_freq

-- the document of the entry that was read last is open
pub record IsOpen (s : Scan) (all : TermOccurrences) (b : Beside) : Type 0 where
  pub left : List Occurrence
  pub among : IsAmong s.entries.term s.entries.value all s.passed left b.occurrences
  pub settled : b.ahead ≡ None
  pub none : s.between ≡ 0

-- the occurrences stand beside the entries
abbrev pub StandsBeside : Scan → TermOccurrences → Beside → Place → Type 0
StandsBeside s all b Start = IsBeside s.entries.term s.entries.value all s.passed s.passed s.between b
StandsBeside s all b (At e) = IsBeside s.entries.term s.entries.value all (s.passed - 1) s.passed s.between b
StandsBeside s all b (Within e) = IsOpen s all b
StandsBeside s all b End = IsBeside s.entries.term s.entries.value all s.passed s.passed s.between b

-- the parts of a cursor belong together
pub record AreTogether (s : Scan) (k : KnownTerm) (b : Beside) (stand : Place) (flag : Bool) : Type 0 where
  pub scan : IsScan s
  pub skips : k ≡ record { term = s.entries.term; value = s.entries.value }
  pub omits : flag ≡ s.entries.term.rules.omit_tf
  pub interval : 2 ≤ s.entries.term.rules.skip_interval
  pub levels : 1 ≤ s.entries.term.rules.max_levels
  pub place : IsPlace s stand
  pub beside : s.entries.term.rules.omit_tf ≡ false
      → StandsBeside s (occurrences_read s.entries.term s.entries.value b.occurrences.prx) b stand
