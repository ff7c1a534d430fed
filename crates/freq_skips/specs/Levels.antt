-- The skip levels of a term: which data each has, to which entries they belong, and what they must meet.
use Rattle.std.specs.Prelude.{◌≡◌, ◌≤◌, Ok, ℕ, zero, suc, ◌+◌, ◌-◌, ◌*◌, ◌/◌, ◌%◌, ◌^◌, Bool, not, List, [], ◌∷◌, ◌++◌, length, Option, Some, None, nat_le, ◌==◌, ◌&&◌, if◌then◌else◌, slice_index_or}
use Rattle.lu_types.specs.RuleNumbers as number
use Rattle.lu_grammar.specs.Records.{Condition}
use Rattle.lu_grammar.specs.Bytes.{Cursor}
use Rattle.lu_grammar.specs.Plans.{Plan, done, due, and_then, Kind, times, read_plan}
use Rattle.freq_skips.specs.declared.rules.RuledTerm.{RuledTerm}
use Rattle.freq_skips.specs.declared.datum.Wanted.{Wanted}
use Rattle.freq_skips.specs.declared.datum.Point.{Point}
use Rattle.freq_skips.specs.Records.{Record, length_of, skip_of, length_shape, datum_shape, length_to_child, datum_length}
use Rattle.freq_skips.specs.Entries.{Posting, no_posting}

-- the greatest number up to the most for which the power of the base is at most n, or 0
unfoldable pub greatest_power : ℕ → ℕ → ℕ → ℕ
greatest_power base n zero = 0
greatest_power base n (suc most) = if nat_le (base ^ suc most) n then suc most else greatest_power base n most

-- how many skip levels a term has
abbrev pub level_count : RuledTerm → ℕ
level_count t = greatest_power t.rules.skip_interval t.info.doc_freq t.rules.max_levels

-- one datum of a level stands for so many entries
abbrev pub stride : RuledTerm → ℕ → ℕ
stride t level = t.rules.skip_interval ^ suc level

-- how many data a level has
abbrev pub data_count : RuledTerm → ℕ → ℕ
data_count t level = t.info.doc_freq / stride t level

-- the posting that the datum with this number, from 1, belongs to
abbrev pub posting_at : RuledTerm → ℕ → List Posting → ℕ → Posting
posting_at t level postings m = slice_index_or postings (m * stride t level - 1) no_posting

-- before the first datum
abbrev pub no_point : Point
no_point = record { doc = 0; freq = 0; prox = 0; payload = 0; child = 0; place = 0 }

-- the data of a level so far: where the last leads, and all of them
pub record Along : Type 0 where
  pub last : Point
  pub points : List Point

-- before the first datum
abbrev pub no_datum : Along
no_datum = record { last = no_point; points = [] }

-- a level: its number, from 0; the length of its data, where it is stated; and the levels above it, the nearest first
pub record Level : Type 0 where
  pub number : ℕ
  pub stated : Option ℕ
  pub above : List (List Point)

-- where the data of a level start, of which the next stands at this place
abbrev pub level_start : List Point → ℕ → ℕ
level_start [] place = place
level_start (p ∷ ps) place = p.place

-- the child pointer that the level above holds for the datum with this number, in every so many
abbrev pub child_above : RuledTerm → List (List Point) → ℕ → Option ℕ
child_above t [] m = None
child_above t (points ∷ rest) m = if m % t.rules.skip_interval == 0 then Some (slice_index_or points (m / t.rules.skip_interval - 1) no_point).child else None

-- a level above the lowest is to have its length at its last datum
abbrev pub length_at : RuledTerm → Level → ℕ → Option ℕ
length_at t l m = if m == data_count t l.number then l.stated else None

-- the first record of the skip data is a datum where the term has one level
abbrev pub is_first_datum : Level → ℕ → Bool
is_first_datum l m = (l.number == 0) && (length l.above == 0) && (m == 1)

-- a number is there and is another
abbrev pub differs : Option ℕ → ℕ → Bool
differs None n = nat_le 1 0
differs (Some m) n = not (m == n)

-- the first record of the skip data is to stand as far behind the first entry as the dictionary says
abbrev pub skip_start : RuledTerm → Bool → ℕ → Condition
skip_start t first place = record { rule = number.skip_start; broken = first && not (place == t.info.freq + t.info.skip) }

-- how many documents a datum skips
abbrev pub skipped : RuledTerm → ℕ → ℕ
skipped t doc = if t.rules.payloads then doc / 2 else doc

-- what is wanted of the datum with this number
abbrev pub wanted : RuledTerm → List Posting → Level → ℕ → Wanted
wanted t postings l m = record {
  first = is_first_datum l m;
  doc = (posting_at t l.number postings m).before;
  freq = (posting_at t l.number postings m).place - t.info.freq;
  child = child_above t l.above m;
  size = length_at t l m;
}

-- what is asked of a datum, of which this is wanted, in a level that starts there, after a point, at a place
abbrev pub datum_conditions : RuledTerm → Wanted → ℕ → Point → ℕ → Record → List Condition
datum_conditions t w start last place r =
    (skip_start t w.first place)
    ∷ (record { rule = number.skip_doc; broken = not (last.doc + skipped t (skip_of r).doc == w.doc) })
    ∷ (record { rule = number.skip_freq; broken = not (last.freq + (skip_of r).freq == w.freq) })
    ∷ (record { rule = number.skip_omit; broken = t.rules.omit_tf && not ((skip_of r).prox == 0) })
    ∷ (record { rule = number.skip_child; broken = differs w.child (place + length_to_child (skip_of r) - start) })
    ∷ (record { rule = number.skip_length; broken = differs w.size (place + datum_length (skip_of r) - start) })
    ∷ []

-- a number that may be there, or else another
abbrev pub number_or : ℕ → Option ℕ → ℕ
number_or n None = n
number_or n (Some m) = m

-- where a datum leads
abbrev pub point_of : RuledTerm → Point → ℕ → Record → Point
point_of t last place r = record {
  doc = last.doc + skipped t (skip_of r).doc;
  freq = last.freq + (skip_of r).freq;
  prox = last.prox + (skip_of r).prox;
  payload = number_or last.payload (skip_of r).payload;
  child = number_or 0 (skip_of r).child;
  place = place;
}

-- the data so far with one more
abbrev pub with_point : Along → Point → Along
with_point s p = record { last = p; points = s.points ++ p ∷ [] }

-- the data of a level, which differ by those before
abbrev pub datum_kind : RuledTerm → List Posting → Level → Kind Along Record
datum_kind t postings l = record {
  shape = λ s. datum_shape t l.number;
  conditions = λ s place r. datum_conditions t (wanted t postings l (suc (length s.points))) (level_start s.points place) s.last place r;
  after = λ s place r. with_point s (point_of t s.last place r);
}

-- the data of a level
abbrev pub level_data : RuledTerm → List Posting → Level → Plan Along Record
level_data t postings l = times (datum_kind t postings l) (data_count t l.number) no_datum

-- what is asked of the length of a level
abbrev pub length_conditions : RuledTerm → Level → ℕ → Record → List Condition
length_conditions t l place r = skip_start t (length l.above == 0) place ∷ []

-- a level by its parts
abbrev pub level_of : ℕ → Option ℕ → List (List Point) → Level
level_of number stated above = record { number = number; stated = stated; above = above }

-- a level above the lowest is its length and then its data; the lowest has its data alone
abbrev pub level_plan : RuledTerm → List Posting → ℕ → List (List Point) → Plan Along Record
level_plan t postings zero above = level_data t postings (level_of 0 None above)
level_plan t postings (suc n) above = due length_shape (length_conditions t (level_of (suc n) None above))
    (λ place r. level_data t postings (level_of (suc n) (Some (length_of r)) above))

-- so many levels from the highest down, after those above, the nearest first
unfoldable pub levels : RuledTerm → List Posting → ℕ → List (List Point) → Plan (List (List Point)) Record
levels t postings zero above = done above
levels t postings (suc n) above = and_then (level_plan t postings n above) (λ s. levels t postings n (s.points ∷ above))

-- the sums of so many data are below so many times 2^32
pub record AreSmallSums (count : ℕ) (p : Point) : Type 0 where
  pub doc : p.doc ≤ count * 2 ^ 32
  pub freq : p.freq ≤ count * 2 ^ 32
  pub prox : p.prox ≤ count * 2 ^ 32

-- on a level that starts here so many data are good; the last leads there, and the cursor is behind them
pub record Follows (t : RuledTerm) (postings : List Posting) (l : Level) (start : Cursor) (count : ℕ) (last : Point) (here : Cursor) : Type 0 where
  pub along : Along
  pub reads : read_plan (times (datum_kind t postings l) count no_datum) start ≡ Ok (along, here)
  pub last_is : along.last ≡ last
  pub number : length along.points ≡ count
  pub begins : level_start along.points here.place ≡ start.place

-- all data of the level that starts here are good, and these are they
pub record AreData (t : RuledTerm) (postings : List Posting) (l : Level) (start : Cursor) (points : List Point) (end : Cursor) : Type 0 where
  pub along : Along
  pub reads : read_plan (level_data t postings l) start ≡ Ok (along, end)
  pub points_are : along.points ≡ points

-- what reading a datum again shows, where all of its level are good
pub record IsNextDatum (t : RuledTerm) (postings : List Posting) (l : Level) (start : Cursor) (points : List Point) (count : ℕ) (p : Point) (next : Cursor) : Type 0 where
  pub follows : Follows t postings l start (count + 1) p next
  pub doc : p.doc ≡ (wanted t postings l (suc count)).doc
  pub freq : p.freq ≡ (wanted t postings l (suc count)).freq
  pub point : slice_index_or points count no_point ≡ p

-- all data of the level that starts here are good, and end there
pub record AreGoodData (t : RuledTerm) (postings : List Posting) (l : Level) (start end : Cursor) : Type 0 where
  pub along : Along
  pub reads : read_plan (level_data t postings l) start ≡ Ok (along, end)
