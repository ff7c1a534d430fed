-- How many data of a level lead below a target, and what that says of the level below.
use Rattle.std.proofs.Common.{◌≡◌, ℕ, suc, ◌+◌, ◌-◌, ◌*◌, ◌<◌, ◌≤◌, ◌⊎◌, inl, inr, Bool, true, false, List, [], length, get_or, refl, sym, ap, ◌∙◌, arith}
use Rattle.std.specs.Prelude.{slice_index_or, nat_lt, min, if◌then◌else◌}
use Rattle.std.specs.List.{prefix_len}
use Rattle.std.proofs.lemmas.Bool.{cases_lt, ne_eqb}
use Rattle.std.proofs.lemmas.Bool.Decides.{nat_tests}
use Rattle.std.proofs.lemmas.List.{get_or-drop}
use Rattle.std.proofs.lemmas.List.Sums.{prefix_len_passes, prefix_len_stops}
use Rattle.std.proofs.Math.Nat.{mul-le-mul_right}
use Rattle.lu_grammar.specs.Bytes.{Cursor}
use Rattle.lu_grammar.proofs.Codecs.{same_pair}
use Rattle.freq_skips.specs.declared.rules.RuledTerm.{RuledTerm}
use Rattle.freq_skips.specs.declared.datum.Point.{Point}
use Rattle.freq_skips.specs.Entries.{Posting, postings_from}
use Rattle.freq_skips.specs.Levels.{Level, no_point, level_of, level_count, stride, data_count, AreData, Follows}
use Rattle.freq_skips.specs.Terms.{TermData}
use Rattle.freq_skips.specs.Walks.{start_in, value_from, points_in}
use Rattle.freq_skips.specs.Points.{is_highest, data_below, data_led, data_searched, data_read}
use Rattle.freq_skips.specs.Finding.{CanSearch, LevelsLeft}
use Rattle.freq_skips.proofs.TermLemmas.{TermParts-ReadsTo}
use Rattle.freq_skips.proofs.WalkLemmas.{LevelsRead-good, levels-drop, value_from-is}
use Rattle.freq_skips.proofs.AgainLemmas.{Follows-upto}
use Rattle.freq_skips.proofs.PostingLemmas.{before-rises}
use Rattle.freq_skips.proofs.PointLemmas.{entries-good, level-of-term, leads-there}

-- a level has as many data as it is to have
points-long : (t : RuledTerm) (ps : List Posting) (l : Level) (start : Cursor) (points : List Point) (end : Cursor) → AreData t ps l start points end → length points ≡ data_count t l.number
points-long t ps l start points end all = go (Follows-upto t ps l start points end (data_count t l.number) all (omega arith))
  where
    go : ((last : Point) × (here : Cursor) × Follows t ps l start (data_count t l.number) last here) → length points ≡ data_count t l.number
    go (last, here, h) =
        let same = same_pair h.along all.along here end (sym h.reads ∙ all.reads) in
        ap length (sym all.points_are) ∙ ap (λ (a : _). length a.points) (sym same.0) ∙ h.number

pub points-length : (t : RuledTerm) (frq : List ℕ) (level : ℕ) → CanSearch t frq → level < level_count t → length (points_in t frq level) ≡ data_count t level
points-length t frq level search lt =
    let known = level-of-term t frq level search.bytes search.good lt in points-long t (postings_from t (start_in t frq)) (level_of level known.stated known.above) known.start (points_in t frq level) known.end known.all

-- the documents that the data of a level lead to do not fall
pub doc-rises : (t : RuledTerm) (frq : List ℕ) (level i j : ℕ) → CanSearch t frq → level < level_count t → i ≤ j → j < data_count t level → (slice_index_or (points_in t frq level) i no_point).doc ≤ (slice_index_or (points_in t frq level) j no_point).doc
doc-rises t frq level i j search lt le below =
    let a = leads-there t frq level i search.bytes search.good lt (omega arith) in
    let b = leads-there t frq level j search.bytes search.good lt below in
    let good = entries-good t frq search.good in
    let up : suc i * stride t level ≤ suc j * stride t level = mul-le-mul_right (stride t level) (let z : suc i ≤ suc j = omega arith in z) in
    let rise = before-rises t (start_in t frq) good.0 (suc i * stride t level - 1) (suc j * stride t level - 1) good.1 (omega arith) b.within in
    omega (arith, a.doc, b.doc, rise)

-- those that are counted lead below the target, and the next does not
pub below-passes : (v : TermData) (target level k : ℕ) → k < data_below v target level → (slice_index_or (slice_index_or v.levels level []) k no_point).doc < target
below-passes v target level k lt = low (prefix_len_passes (λ p. nat_lt p.doc target) (slice_index_or v.levels level []) k no_point lt)
  where
    low : nat_lt (slice_index_or (slice_index_or v.levels level []) k no_point).doc target ≡ true → (slice_index_or (slice_index_or v.levels level []) k no_point).doc < target
    low e = grind (arith, nat_tests)

pub below-stops : (v : TermData) (target level : ℕ) → data_below v target level < length (slice_index_or v.levels level []) → target ≤ (slice_index_or (slice_index_or v.levels level []) (data_below v target level) no_point).doc
below-stops v target level lt = high (prefix_len_stops (λ p. nat_lt p.doc target) (slice_index_or v.levels level []) no_point lt)
  where
    high : nat_lt (slice_index_or (slice_index_or v.levels level []) (data_below v target level) no_point).doc target ≡ false → target ≤ (slice_index_or (slice_index_or v.levels level []) (data_below v target level) no_point).doc
    high e = grind (arith, nat_tests)

pub test-low : (m n : ℕ) → m < n → nat_lt m n ≡ true
test-low m n lt = grind (arith, nat_tests)

pub test-high : (m n : ℕ) → n ≤ m → nat_lt m n ≡ false
test-high m n le = grind (arith, nat_tests)

-- none is counted above the highest level
pub below-none : (t : RuledTerm) (frq : List ℕ) (target : ℕ) → CanSearch t frq → data_below (value_from t (start_in t frq)) target (level_count t) ≡ 0
below-none t frq target search =
    let good = search.good in
    let parts = TermParts-ReadsTo t (start_in t frq) good.value good.end good.reads in
    let is = value_from-is t (start_in t frq) good.value good.end good.reads in
    let dropped = levels-drop t (postings_from t (start_in t frq)) (level_count t) [] parts.mid good.value.levels good.end parts.levels_read in
    let none : get_or good.value.levels (level_count t) [] ≡ [] =
    ap (λ (k : ℕ). get_or good.value.levels k []) (let z : level_count t ≡ level_count t + 0 = omega arith in z) ∙ sym (get_or-drop (level_count t) good.value.levels 0 []) ∙ ap (λ (l : List (List Point)). get_or l 0 []) dropped in
    ap (λ (v : TermData). data_below v target (level_count t)) is ∙ ap (λ (l : List Point). prefix_len (λ p. nat_lt p.doc target) l) none

-- the levels are left from where the skip data start
pub LevelsLeft-first : (t : RuledTerm) (frq : List ℕ) → CanSearch t frq → 0 < level_count t → LevelsLeft t frq (level_count t) (t.info.freq + t.info.skip)
LevelsLeft-first t frq search some =
    let read = LevelsRead-good t frq search.bytes search.good some in
    record { within = read.within; above = []; above_count = omega arith; end = read.end; reads = read.reads }

-- a level was searched from where the level above leads: so many of its data lead below the target, and so many were read
pub record LevelSearched (t : RuledTerm) (v : TermData) (target level old new most : ℕ) : Type 0 where
  pub below : new ≡ data_below v target level
  pub read : min (suc new) most - old ≡ data_read t v target level

-- the data that the level above leads past
led-is : (t : RuledTerm) (v : TermData) (target level above : ℕ) (h : Bool) → is_highest t level ≡ h → (above ≡ 0) ⊎ (suc level < level_count t) → above ≡ data_below v target (suc level) → above * t.rules.skip_interval ≡ (if h then 0 else data_below v target (suc level) * t.rules.skip_interval)
led-is t v target level above true top which is = elim which [
  | inl none ↦ ap (λ (n : ℕ). n * t.rules.skip_interval) none ∙ (omega arith)
  | inr lt ↦ let e : is_highest t level ≡ false = ne_eqb (suc level) (level_count t) (λ same. absurd (omega arith)) in cc
]
led-is t v target level above false top which is = ap (λ (n : ℕ). n * t.rules.skip_interval) is

pub led-data : (t : RuledTerm) (v : TermData) (target level above : ℕ) → (above ≡ 0) ⊎ (suc level < level_count t) → above ≡ data_below v target (suc level) → above * t.rules.skip_interval ≡ data_led t v target level
led-data t v target level above which is = led-is t v target level above (is_highest t level) refl which is

-- so many are searched
pub searched-data : (t : RuledTerm) (v : TermData) (target level old most : ℕ) → old ≡ data_led t v target level
    → most ≡ (if is_highest t level then data_count t level else min (data_count t level) (old + (t.rules.skip_interval - 1))) → most ≡ data_searched t v target level
searched-data t v target level old most is e =
    e ∙ ap (λ (n : ℕ). if is_highest t level then data_count t level else min (data_count t level) (n + (t.rules.skip_interval - 1))) is

-- the search ends where the level has no more data to search
pub most-cases : (t : RuledTerm) (level old most : ℕ) (h : Bool) → is_highest t level ≡ h → most ≡ (if h then data_count t level else min (data_count t level) (old + (t.rules.skip_interval - 1)))
    → (most ≡ data_count t level) ⊎ ((most ≡ old + (t.rules.skip_interval - 1)) × (is_highest t level ≡ false) × (most ≤ data_count t level))
most-cases t level old most true top e = inl e
most-cases t level old most false top e = elim (cases_lt (data_count t level) (old + (t.rules.skip_interval - 1))) [
  | inl lt ↦ inl (omega (arith, e))
  | inr ge ↦ inr (omega (arith, e), top, omega (arith, e))
]

pub most-within : (t : RuledTerm) (level old most : ℕ) → old ≤ data_count t level → most ≡ (if is_highest t level then data_count t level else min (data_count t level) (old + (t.rules.skip_interval - 1)))
    → (old ≤ most) × (most ≤ data_count t level)
most-within t level old most le e = elim (most-cases t level old most (is_highest t level) refl e) [
  | inl all ↦ (omega (arith, all), omega (arith, all))
  | inr some ↦ (omega (arith, some.0), some.2)
]
