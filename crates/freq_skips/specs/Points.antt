-- The points of a term that its skip data give, and the search for one of them (docs/FORMAT.md, "Entries and skip data").
use Rattle.std.specs.Prelude.{◌≡◌, ◌⊎◌, ◌<◌, ◌≤◌, ◌+◌, ◌-◌, ◌*◌, ℕ, zero, suc, Bool, List, [], ◌==◌, if◌then◌else◌, min, nat_lt, slice_index_or}
use Rattle.std.specs.List.{prefix_len}
use Rattle.lu_grammar.specs.Bytes.{Cursor, place_in}
use Rattle.lu_grammar.specs.Meaning.{ReadsTo}
use Rattle.lu_types.specs.declared.term.TermInfo.{TermInfo}
use Rattle.lu_types.specs.declared.term.TermRules.{TermRules}
use Rattle.freq_skips.specs.declared.rules.RuledTerm.{RuledTerm}
use Rattle.freq_skips.specs.declared.skip_point.SkipPoint.{SkipPoint}
use Rattle.freq_skips.specs.Entries.{no_posting}
use Rattle.freq_skips.specs.Levels.{level_count, stride, data_count}
use Rattle.freq_skips.specs.Terms.{TermData, ruled_by, term_plan}
use Rattle.freq_skips.specs.Walks.{point_at, HasDatum}
use Rattle.freq_skips.specs.ProxPlaces.{HasProxPlaces}

-- a term, and what its part of `.frq` stands for
pub record KnownTerm : Type 0 where
  pub term : RuledTerm
  pub value : TermData

-- the skip data of the term that stands in the file tell where the positions of its entries start
pub record HasKnownPlaces (info : TermInfo) (rules : TermRules) (frq : List ℕ) : Type 0 where
  pub value : TermData
  pub end : Cursor
  pub reads : ReadsTo (term_plan (ruled_by info rules)) (place_in frq info.freq) value end
  pub prox : ℕ → ℕ
  pub places : HasProxPlaces (ruled_by info rules) value prox

-- the index of the entry that a datum of the lowest level belongs to which follows so many
abbrev pub entry_behind : RuledTerm → ℕ → ℕ
entry_behind t m = suc m * stride t 0 - 1

-- the point behind so many data of the lowest level: the start of the term; or the entries before the one that the last datum belongs to, the document of the last of them, and the places where that entry and its positions start
abbrev pub skip_point_behind : RuledTerm → TermData → ℕ → SkipPoint
skip_point_behind t v zero = record { passed = 0; doc = 0; freq = t.info.freq; prox = t.info.prox }
skip_point_behind t v (suc m) = record {
  passed = entry_behind t m;
  doc = (slice_index_or v.postings (entry_behind t m) no_posting).before;
  freq = (slice_index_or v.postings (entry_behind t m) no_posting).place;
  prox = t.info.prox + (point_at v 0 m).prox;
}

-- a point of the term: its start, or one that a datum of its lowest level gives
pub record IsPoint (t : RuledTerm) (v : TermData) (p : SkipPoint) : Type 0 where
  pub number : ℕ
  pub exists : (number ≡ 0) ⊎ ((0 < level_count t) × (number ≤ data_count t 0))
  pub point : p ≡ skip_point_behind t v number

-- the last point of the term whose document is below the target, or the start of the term where there is none
pub record IsLastBelow (k : KnownTerm) (target : ℕ) (p : SkipPoint) : Type 0 where
  pub point : IsPoint k.term k.value p
  pub below : 0 < p.passed → p.doc < target
  pub greatest : (index : ℕ) → index < k.term.info.doc_freq → HasDatum k.term 0 (suc index) → (slice_index_or k.value.postings index no_posting).before < target → index ≤ p.passed

-- ---- the steps

-- how many data of a level lead to documents below the target
abbrev pub data_below : TermData → ℕ → ℕ → ℕ
data_below v target level = prefix_len (λ p. nat_lt p.doc target) (slice_index_or v.levels level [])

-- the level is the highest of the term
abbrev pub is_highest : RuledTerm → ℕ → Bool
is_highest t level = suc level == level_count t

-- how many data of a level are passed where the level above leads: none of the highest
abbrev pub data_led : RuledTerm → TermData → ℕ → ℕ → ℕ
data_led t v target level = if is_highest t level then 0 else data_below v target (suc level) * t.rules.skip_interval

-- up to which datum a level is searched: the highest to its end, another to the next that the level above leads to
abbrev pub data_searched : RuledTerm → TermData → ℕ → ℕ → ℕ
data_searched t v target level = if is_highest t level then data_count t level else min (data_count t level) (data_led t v target level + (t.rules.skip_interval - 1))

-- how many data of a level are read: up to the first that does not lead below the target
abbrev pub data_read : RuledTerm → TermData → ℕ → ℕ → ℕ
data_read t v target level = min (suc (data_below v target level)) (data_searched t v target level) - data_led t v target level

-- how many data of so many levels are read, from the lowest on
unfoldable pub find_steps : RuledTerm → TermData → ℕ → ℕ → ℕ
find_steps t v target zero = 0
find_steps t v target (suc level) = data_read t v target level + find_steps t v target level

-- how many data the highest level has; a term without levels has none
abbrev pub highest_count : RuledTerm → ℕ
highest_count t = if level_count t == 0 then 0 else data_count t (level_count t - 1)

-- the most steps that a search takes: the data of the highest level, and as many as the interval for each level
abbrev pub most_steps : RuledTerm → ℕ
most_steps t = highest_count t + t.rules.skip_interval * level_count t
