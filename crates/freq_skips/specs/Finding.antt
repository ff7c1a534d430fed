-- Where a search stands on the skip levels of a term.
use Rattle.std.specs.Prelude.{◌≡◌, ◌⊎◌, ◌<◌, ◌≤◌, ◌+◌, ◌^◌, ℕ, zero, suc, List, ◌∷◌, Option, Ok, length, slice_index_or}
use Rattle.lu_grammar.specs.Bytes.{IsBytes, Cursor, place_in}
use Rattle.freq_skips.specs.declared.rules.RuledTerm.{RuledTerm}
use Rattle.freq_skips.specs.declared.datum.Point.{Point}
use Rattle.freq_skips.specs.Entries.{postings_from}
use Rattle.lu_grammar.specs.Plans.{read_plan}
use Rattle.freq_skips.specs.Levels.{level_of, level_count, levels, data_count, no_point, Follows, AreData}
use Rattle.freq_skips.specs.Terms.{IsGoodTerm}
use Rattle.freq_skips.specs.Walks.{start_in, value_from, points_in}
use Rattle.freq_skips.specs.ProxPlaces.{HasProxPlaces}

-- the term is good in these bytes, and its skip data tell where the positions of its entries start
pub record CanSearch (t : RuledTerm) (frq : List ℕ) : Type 0 where
  pub good : IsGoodTerm t.info t.rules frq
  pub bytes : IsBytes frq
  pub small : length frq < 2 ^ 32
  pub documents : t.rules.documents < 2 ^ 32
  pub count : t.info.doc_freq < 2 ^ 32
  pub prox_small : t.info.prox < 2 ^ 32
  pub prox : ℕ → ℕ
  pub places : HasProxPlaces t (value_from t (start_in t frq)) prox

-- so many levels are left from this place on, the highest first: those above have these data
pub record LevelsLeft (t : RuledTerm) (frq : List ℕ) (number place : ℕ) : Type 0 where
  pub within : place ≤ length frq
  pub above : List (List Point)
  pub above_count : length above + number ≡ level_count t
  pub end : Cursor
  pub reads : read_plan (levels t (postings_from t (start_in t frq)) number above) (place_in frq place) ≡ Ok ((value_from t (start_in t frq)).levels, end)

-- the data of a level of the term start at a place; above it is none, or the level above
pub record LevelStands (t : RuledTerm) (frq : List ℕ) (level begin : ℕ) : Type 0 where
  pub stated : Option ℕ
  pub above : List (List Point)
  pub end : Cursor
  pub all : AreData t (postings_from t (start_in t frq)) (level_of level stated above) (place_in frq begin) (points_in t frq level) end
  pub within : begin ≤ length frq
  pub above_is : (suc level ≡ level_count t) ⊎ ((rest : List (List Point)) × (above ≡ points_in t frq (suc level) ∷ rest))

-- two points lead to one place, and tell one child pointer
pub record IsLike (p q : Point) : Type 0 where
  pub doc : p.doc ≡ q.doc
  pub freq : p.freq ≡ q.freq
  pub prox : p.prox ≡ q.prox
  pub child : p.child ≡ q.child

-- where the last of so many data leads
abbrev pub last_of : List Point → ℕ → Point
last_of points zero = no_point
last_of points (suc m) = slice_index_or points m no_point

-- so many data of a level are passed, and the last leads there; above the highest level none is
pub record HasPassedData (t : RuledTerm) (frq : List ℕ) (level count : ℕ) (last : Point) : Type 0 where
  pub within : count ≤ data_count t level
  pub level_within : (count ≡ 0) ⊎ (level < level_count t)
  pub like : IsLike last (last_of (points_in t frq level) count)

-- a walk along a level of the term stands behind the data that it has passed
pub record StandsOn (t : RuledTerm) (frq : List ℕ) (level count : ℕ) (leads : Point) (here : Cursor) : Type 0 where
  pub begin : ℕ
  pub level_within : level < level_count t
  pub stands : LevelStands t frq level begin
  pub last : Point
  pub follows : Follows t (postings_from t (start_in t frq)) (level_of level stands.stated stands.above) (place_in frq begin) count last here
  pub like : IsLike leads last
  pub passed : HasPassedData t frq level count leads

-- the data from these on, up to those, lead to documents below the target; and those are all that are searched, or the next does not
pub record StopsAt (points : List Point) (target old new most : ℕ) : Type 0 where
  pub grows : old ≤ new
  pub within : new ≤ most
  pub below : (j : ℕ) → old ≤ j → j < new → (slice_index_or points j no_point).doc < target
  pub stops : (new ≡ most) ⊎ ((new < most) × (target ≤ (slice_index_or points new no_point).doc))
