-- A walk over a term: its entries in order, and with each the data that belong to it.
use Rattle.std.specs.Prelude.{◌≡◌, ◌≢◌, ◌⊎◌, ◌<◌, ◌≤◌, ◌-◌, ◌/◌, ◌%◌, ℕ, List, [], Option, Some, None, Result, Ok, Err, length, slice_index_or}
use Rattle.lu_grammar.specs.Bytes.{Cursor, place_in}
use Rattle.lu_grammar.specs.Plans.{Broken, read_plan}
use Rattle.freq_skips.specs.declared.rules.RuledTerm.{RuledTerm}
use Rattle.freq_skips.specs.declared.datum.Point.{Point}
use Rattle.freq_skips.specs.declared.walk.WalkedEntry.{WalkedEntry}
use Rattle.freq_skips.specs.declared.walk.Datum.{Datum}
use Rattle.freq_skips.specs.declared.walk.LevelPlace.{LevelPlace}
use Rattle.freq_skips.specs.Entries.{Posting, no_posting, postings_from}
use Rattle.freq_skips.specs.Levels.{level_count, stride, level_of, no_point, Follows, AreData, AreSmallSums}
use Rattle.freq_skips.specs.Terms.{TermData, term_plan}

-- a walk: the term, what its part of `.frq` stands for, and how many entries were answered
pub record WalkState : Type 0 where
  pub term : RuledTerm
  pub value : TermData
  pub passed : ℕ

-- the entry with this index
abbrev pub walked_at : TermData → ℕ → WalkedEntry
walked_at v index = record { index = index; doc = (slice_index_or v.postings index no_posting).doc; freq = (slice_index_or v.postings index no_posting).freq }

-- where the datum of a level leads that comes after so many
abbrev pub point_at : TermData → ℕ → ℕ → Point
point_at v level number = slice_index_or (slice_index_or v.levels level []) number no_point

-- the sums along the level and the payload length carried there
abbrev pub datum_of : Point → Datum
datum_of p = record { doc = p.doc; freq = p.freq; prox = p.prox; payload = p.payload }

-- the level has a datum for the last of so many entries
abbrev pub HasDatum : RuledTerm → ℕ → ℕ → Type 0
HasDatum t level passed = (level < level_count t) × (0 < passed) × (passed % stride t level ≡ 0)

-- that datum of the level, or that it has none
abbrev pub IsDatumFor : WalkState → ℕ → Option Datum → Type 0
IsDatumFor w level None = ¬ HasDatum w.term level w.passed
IsDatumFor w level (Some d) = HasDatum w.term level w.passed × (d ≡ datum_of (point_at w.value level (w.passed / stride w.term level - 1)))

-- what reading a term answered, where it is good
abbrev pub read_value : Result (TermData × Cursor) Broken → TermData
read_value (Ok x) = x.0
read_value (Err b) = record { postings = []; levels = [] }

-- what a term that is good and starts here stands for
abbrev pub value_from : RuledTerm → Cursor → TermData
value_from t start = read_value (read_plan (term_plan t) start)

-- a place along a level whose data are good: so many are passed, one for every so many entries
pub record IsOnLevel (t : RuledTerm) (postings : List Posting) (level : ℕ) (points : List Point) (frq : List ℕ) (passed : ℕ) (r : LevelPlace) : Type 0 where
  pub stated : Option ℕ
  pub rest : List (List Point)
  pub begin : ℕ
  pub end : Cursor
  pub all : AreData t postings (level_of level stated rest) (place_in frq begin) points end
  pub follows : Follows t postings (level_of level stated rest) (place_in frq begin) r.count r.last (place_in frq r.place)
  pub number : r.count ≡ passed / stride t level
  pub small : AreSmallSums r.count r.last
  pub begin_within : begin ≤ length frq
  pub within : r.place ≤ length frq

-- nowhere
abbrev pub no_level_place : LevelPlace
no_level_place = record { place = 0; count = 0; last = no_point }

-- the term that starts at its place in these bytes
abbrev pub start_in : RuledTerm → List ℕ → Cursor
start_in t frq = place_in frq t.info.freq

-- the data of a level of that term
abbrev pub points_in : RuledTerm → List ℕ → ℕ → List Point
points_in t frq level = slice_index_or (value_from t (start_in t frq)).levels level []

-- there is a place along each level, after so many entries
abbrev pub AreOnLevels : RuledTerm → List ℕ → ℕ → List LevelPlace → Type 0
AreOnLevels t frq passed places = (n : ℕ) → n < level_count t → IsOnLevel t (postings_from t (start_in t frq)) n (points_in t frq n) frq passed (slice_index_or places n no_level_place)

-- the datum passed last on a level is the one that belongs to the last of so many entries
pub record IsDatumOfLast (t : RuledTerm) (frq : List ℕ) (level passed : ℕ) (p : Point) : Type 0 where
  pub level_below : level < level_count t
  pub multiple : passed % stride t level ≡ 0
  pub point : slice_index_or (points_in t frq level) (passed / stride t level - 1) no_point ≡ p
  pub doc : p.doc ≡ (slice_index_or (postings_from t (start_in t frq)) (passed - 1) no_posting).before
  pub freq : p.freq ≡ (slice_index_or (postings_from t (start_in t frq)) (passed - 1) no_posting).place - t.info.freq

-- a level that has no datum for the last of so many entries
abbrev pub HasNoDatumForLast : RuledTerm → ℕ → ℕ → Type 0
HasNoDatumForLast t level passed = (passed ≡ 0) ⊎ (passed % stride t level ≢ 0)

-- the document before the last of so many entries, and the bytes of the entries before it
pub record IsBeforeLast (t : RuledTerm) (frq : List ℕ) (passed doc freq : ℕ) : Type 0 where
  pub doc_is : doc ≡ (slice_index_or (postings_from t (start_in t frq)) (passed - 1) no_posting).before
  pub freq_is : freq ≡ (slice_index_or (postings_from t (start_in t frq)) (passed - 1) no_posting).place - t.info.freq
