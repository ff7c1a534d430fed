-- The one canonical spelling of entries and skip data.
use Rattle.std.specs.Prelude.{◌<◌, ◌≤◌, ◌^◌, ℕ, zero, suc, ◌+◌, ◌-◌, ◌*◌, ◌/◌, Bool, false, List, [], ◌∷◌, ◌++◌, length, take, Option, Some, None, ◌==◌, if◌then◌else◌, slice_index_or}
use Rattle.lu_grammar.specs.Parts.{Part, Value, vint, num, vlong, spelling}
use Rattle.freq_skips.specs.declared.datum.Skip.{Skip}
use Rattle.freq_skips.specs.declared.writer.Mark.{Mark}
pub use Rattle.freq_skips.specs.declared.writer.Handed.{Handed}
use Rattle.freq_skips.specs.Entries.{Posting}

-- a number that may be there
abbrev pub optional_bytes : (p : Part) → Option (Value p) → List ℕ
optional_bytes p None = []
optional_bytes p (Some v) = spelling p v

-- no entry
abbrev pub no_handed : Handed
no_handed = record { doc = 0; freq = 0; prox = 0 }

-- its delta, and its frequency where that is stated: an odd delta tells the frequency 1
abbrev pub canonical_parts : Bool → ℕ → ℕ → ℕ × Option ℕ
canonical_parts omit gap freq = if omit then (gap, None) else (if freq == 1 then (2 * gap + 1, None) else (2 * gap, Some freq))

-- the bytes of a delta and a frequency that may be stated
abbrev pub entry_parts_bytes : ℕ → Option ℕ → List ℕ
entry_parts_bytes delta stated = spelling vint delta ++ optional_bytes num stated

-- its bytes, after a document
abbrev pub entry_bytes : Bool → ℕ → Handed → List ℕ
entry_bytes omit last h = entry_parts_bytes (canonical_parts omit (h.doc - last) h.freq).0 (canonical_parts omit (h.doc - last) h.freq).1

-- the document of the last entry, after a document
abbrev pub last_doc : ℕ → List Handed → ℕ
last_doc last [] = last
last_doc last (h ∷ hs) = last_doc h.doc hs

-- the entries of a term, after a document
abbrev pub entries_bytes : Bool → ℕ → List Handed → List ℕ
entries_bytes omit last [] = []
entries_bytes omit last (h ∷ hs) = entry_bytes omit last h ++ entries_bytes omit h.doc hs

-- where a datum for the entry with this index leads: the document of the entry before, the bytes of the entries before, and those of their positions
abbrev pub mark_of : Bool → List Handed → ℕ → Mark
mark_of omit handed k = record {
  doc = last_doc 0 (take k handed);
  freq = length (entries_bytes omit 0 (take k handed));
  prox = if omit then 0 else (slice_index_or handed k no_handed).prox;
}

-- before the first datum
abbrev pub no_mark : Mark
no_mark = record { doc = 0; freq = 0; prox = 0 }

-- the datum that leads from one mark to another, without a payload length
abbrev pub skip_between : Bool → Mark → Mark → Option ℕ → Skip
skip_between payloads from to child = record {
  doc = if payloads then 2 * (to.doc - from.doc) else to.doc - from.doc;
  payload = None;
  freq = to.freq - from.freq;
  prox = to.prox - from.prox;
  child = child;
}

-- its bytes up to the child pointer, and all of them
abbrev pub bytes_to_child : Skip → List ℕ
bytes_to_child d = spelling vint d.doc ++ optional_bytes num d.payload ++ spelling num d.freq ++ spelling num d.prox

-- all bytes of a datum
abbrev pub datum_bytes : Skip → List ℕ
datum_bytes d = bytes_to_child d ++ optional_bytes vlong d.child

-- a skip level as it is written: what its field leaves out and may have, the interval, the entries of the term, and its number, from 0
pub record SkipLevel : Type 0 where
  pub omit : Bool
  pub payloads : Bool
  pub interval : ℕ
  pub entries : List Handed
  pub number : ℕ

-- a level by its parts
abbrev pub skip_level : Bool → Bool → ℕ → List Handed → ℕ → SkipLevel
skip_level omit payloads interval entries number = record { omit = omit; payloads = payloads; interval = interval; entries = entries; number = number }

-- where so many data of a level lead
abbrev pub mark_after : SkipLevel → ℕ → Mark
mark_after l zero = no_mark
mark_after l (suc m) = mark_of l.omit l.entries (suc m * l.interval ^ suc l.number - 1)

-- the datum that follows so many, by the child pointers of the level
abbrev pub skip_with : SkipLevel → (ℕ → Option ℕ) → ℕ → Skip
skip_with l child m = skip_between l.payloads (mark_after l m) (mark_after l (suc m)) (child m)

-- so many data of the level
unfoldable pub data_with : SkipLevel → (ℕ → Option ℕ) → ℕ → List ℕ
data_with l child zero = []
data_with l child (suc m) = data_with l child m ++ datum_bytes (skip_with l child m)

-- the place in the level just after the ProxSkip of the datum that follows so many
abbrev pub place_with : SkipLevel → (ℕ → Option ℕ) → ℕ → ℕ
place_with l child m = length (data_with l child m) + length (bytes_to_child (skip_with l child m))

-- the child pointers of a level: the lowest has none, and another leads just after the ProxSkip of every so manieth datum of the level below
unfoldable pub child_pointer : Bool → Bool → ℕ → List Handed → ℕ → ℕ → Option ℕ
child_pointer omit payloads interval entries zero m = None
child_pointer omit payloads interval entries (suc n) m = Some (place_with (skip_level omit payloads interval entries n) (child_pointer omit payloads interval entries n) (suc m * interval - 1))

-- the child pointer of the datum that follows so many
abbrev pub child_after : SkipLevel → ℕ → Option ℕ
child_after l m = child_pointer l.omit l.payloads l.interval l.entries l.number m

-- the datum that follows so many
abbrev pub written_skip : SkipLevel → ℕ → Skip
written_skip l m = skip_with l (child_after l) m

-- so many data of the level
abbrev pub data_bytes : SkipLevel → ℕ → List ℕ
data_bytes l m = data_with l (child_after l) m

-- how many data the level has
abbrev pub data_number : SkipLevel → ℕ
data_number l = length l.entries / l.interval ^ suc l.number

-- a level above the lowest is its length and then its data
abbrev pub with_level_length : ℕ → List ℕ → List ℕ
with_level_length zero bytes = bytes
with_level_length (suc n) bytes = spelling vlong (length bytes) ++ bytes

-- the level above
abbrev pub level_above : SkipLevel → SkipLevel
level_above l = skip_level l.omit l.payloads l.interval l.entries (suc l.number)

-- so many levels from this one on, the highest first
unfoldable pub skip_bytes : ℕ → SkipLevel → List ℕ
skip_bytes zero l = []
skip_bytes (suc k) l = skip_bytes k (level_above l) ++ with_level_length l.number (data_bytes l (data_number l))

-- the postings of entries that start at a place, after a document
abbrev pub written_postings : Bool → ℕ → ℕ → List Handed → List Posting
written_postings omit place last [] = []
written_postings omit place last (h ∷ hs) = (record { doc = h.doc; freq = if omit then 1 else h.freq; before = last; place = place }) ∷ written_postings omit (place + length (entry_bytes omit last h)) h.doc hs

-- entries that may be handed over in a segment with so many documents: each document is above the one before, but for the first
abbrev pub AreInOrder : ℕ → Bool → ℕ → List Handed → Type 0
AreInOrder documents first last [] = Unit {0}
AreInOrder documents first last (h ∷ hs) = (last + (if first then 0 else 1) ≤ h.doc) × (h.doc < documents) × (h.doc < 2 ^ 31) × (1 ≤ h.freq) × (h.freq < 2 ^ 31) × AreInOrder documents false h.doc hs
