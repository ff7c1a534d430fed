-- One datum more along a level.
use Rattle.std.proofs.Common.{◌≡◌, ℕ, add-one, ◌+◌, ◌-◌, ◌/◌, ◌%◌, ◌<◌, ◌≤◌, ◌≢◌, List, Option, sym, ap, subst, ◌∙◌, arith}
use Rattle.std.specs.Prelude.{slice_index_or}
use Rattle.lu_grammar.specs.Bytes.{IsBytes, Cursor, place_in}
use Rattle.lu_grammar.specs.Plans.{times}
use Rattle.freq_skips.specs.declared.rules.RuledTerm.{RuledTerm}
use Rattle.freq_skips.specs.declared.datum.Point.{Point}
use Rattle.freq_skips.specs.declared.walk.LevelPlace.{LevelPlace}
use Rattle.freq_skips.specs.Entries.{Posting, no_posting, postings_from}
use Rattle.freq_skips.specs.Levels.{level_of, level_count, stride, data_count, datum_kind, no_datum, no_point, Follows, AreData, IsNextDatum, AreSmallSums}
use Rattle.freq_skips.specs.Walks.{IsOnLevel, IsDatumOfLast, start_in, points_in}
use Rattle.freq_skips.proofs.Powers.{stride-two, quotient-below, quotient-same, multiple-next, multiple-index}
use Rattle.lu_grammar.proofs.Codecs.{place_in-after}

-- what taking the next datum again shows
abbrev pub TakesNext : RuledTerm → List Posting → ℕ → ℕ → Point → Cursor → ℕ → Point → Cursor → Type 0
TakesNext t postings level count last here count' last' next = (stated : Option ℕ) (above : List (List Point)) (begin : Cursor) (points : List Point) (end : Cursor) → AreData t postings (level_of level stated above) begin points end
    → Follows t postings (level_of level stated above) begin count last here → count < data_count t level
    → IsNextDatum t postings (level_of level stated above) begin points count last' next × (count' ≡ count + 1)

pub IsOnLevel-below : (t : RuledTerm) (postings : List Posting) (level : ℕ) (points : List Point) (frq : List ℕ) (before : ℕ) (r : LevelPlace) → 2 ≤ t.rules.skip_interval → (before + 1) % stride t level ≡ 0 → before < t.info.doc_freq
    → IsOnLevel t postings level points frq before r → r.count < data_count t level
IsOnLevel-below t postings level points frq before r two e lt h =
    let s2 = stride-two t.rules.skip_interval level two in
    let below = quotient-below before (stride t level) t.info.doc_freq (omega arith) e lt in
    subst (λ (n : ℕ). n < data_count t level) (sym h.number) below

pub IsOnLevel-next : (t : RuledTerm) (postings : List Posting) (level : ℕ) (points : List Point) (frq : List ℕ) (before : ℕ) (r : LevelPlace) (count place : ℕ) (last : Point) (next : Cursor) → IsBytes frq → 2 ≤ t.rules.skip_interval
    → (before + 1) % stride t level ≡ 0 → before < t.info.doc_freq → (h : IsOnLevel t postings level points frq before r) → TakesNext t postings level r.count r.last (place_in frq r.place) count last next → AreSmallSums count last → place ≡ next.place
    → IsOnLevel t postings level points frq (before + 1) (record { place = place; count = count; last = last })
IsOnLevel-next t postings level points frq before r count place last next fits two e lt h takes small at =
    let s2 = stride-two t.rules.skip_interval level two in
    let l = level_of level h.stated h.rest in
    let below = IsOnLevel-below t postings level points frq before r two e lt h in
    let taken = takes h.stated h.rest (place_in frq h.begin) points h.end h.all h.follows below in
    let after = place_in-after (times (datum_kind t postings l) (r.count + 1) no_datum) frq h.begin taken.0.follows.along next fits h.begin_within taken.0.follows.reads in
    let here : next ≡ place_in frq place = after.0 ∙ ap (λ (n : ℕ). place_in frq n) (sym at) in
    let f1 = subst (λ (n : ℕ). Follows t postings l (place_in frq h.begin) n last next) (sym taken.1) taken.0.follows in
    record {
      stated = h.stated;
      rest = h.rest;
      begin = h.begin;
      end = h.end;
      all = h.all;
      follows = subst (λ (d : Cursor). Follows t postings l (place_in frq h.begin) count last d) here f1;
      number = omega (arith, taken.1, h.number, multiple-next before (stride t level) (omega arith) e);
      small = small;
      begin_within = h.begin_within;
      within = omega (arith, at, after.1);
    }

pub IsDatumOfLast-next : (t : RuledTerm) (frq : List ℕ) (level before : ℕ) (r : LevelPlace) (count : ℕ) (last : Point) (next : Cursor) → 2 ≤ t.rules.skip_interval → level < level_count t
    → (before + 1) % stride t level ≡ 0 → before < t.info.doc_freq → (h : IsOnLevel t (postings_from t (start_in t frq)) level (points_in t frq level) frq before r)
    → TakesNext t (postings_from t (start_in t frq)) level r.count r.last (place_in frq r.place) count last next → IsDatumOfLast t frq level (before + 1) last
IsDatumOfLast-next t frq level before r count last next two below_count e lt h takes =
    let s2 = stride-two t.rules.skip_interval level two in
    let ps = postings_from t (start_in t frq) in
    let below = IsOnLevel-below t ps level (points_in t frq level) frq before r two e lt h in
    let taken = takes h.stated h.rest (place_in frq h.begin) (points_in t frq level) h.end h.all h.follows below in
    let next = multiple-next before (stride t level) (omega arith) e in
    let index : r.count ≡ (before + 1) / stride t level - 1 = omega (arith, h.number, next) in
    let posting = multiple-index before (stride t level) r.count (omega arith) e h.number in
    record {
      level_below = below_count;
      multiple = e;
      point = ap (λ (n : ℕ). slice_index_or (points_in t frq level) n no_point) (sym index) ∙ taken.0.point;
      doc = taken.0.doc ∙ ap (λ (n : ℕ). (slice_index_or ps n no_posting).before) posting;
      freq = taken.0.freq ∙ ap (λ (n : ℕ). (slice_index_or ps n no_posting).place - t.info.freq) posting;
    }

-- an entry without a datum on the level
pub IsOnLevel-same : (t : RuledTerm) (postings : List Posting) (level : ℕ) (points : List Point) (frq : List ℕ) (before : ℕ) (r : LevelPlace) → 2 ≤ t.rules.skip_interval → (before + 1) % stride t level ≢ 0
    → IsOnLevel t postings level points frq before r → IsOnLevel t postings level points frq (before + 1) r
IsOnLevel-same t postings level points frq before r two ne h =
    let s2 = stride-two t.rules.skip_interval level two in
    record {
      stated = h.stated;
      rest = h.rest;
      begin = h.begin;
      end = h.end;
      all = h.all;
      follows = h.follows;
      number = h.number ∙ sym (quotient-same before (stride t level) (omega arith) ne) ∙ ap (λ (n : ℕ). n / stride t level) (sym (add-one before));
      small = h.small;
      begin_within = h.begin_within;
      within = h.within;
    }
