-- Where the levels of a good term start and end.
use Rattle.std.proofs.Common.{◌≡◌, ℕ, suc, ◌+◌, ◌-◌, ◌^◌, ◌<◌, ◌≤◌, ◌⊎◌, inl, inr, false, List, [], ◌∷◌, length, drop, get_or, Option, Some, Ok, Err, refl, sym, ap, subst, ◌∙◌, arith}
use Rattle.std.specs.Prelude.{slice_index_or, ◌==◌, min, MatchOption}
use Rattle.std.proofs.lemmas.Bool.{eq-eqb, ne_eqb, cases_eq}
use Rattle.std.proofs.lemmas.List.{get_or-drop}
use Rattle.std.proofs.Math.Nat.{le-div_iff_mul-le, pow-le-pow_right}
use Rattle.lu_grammar.specs.Bytes.{IsBytes, Cursor, place_in}
use Rattle.lu_grammar.specs.Plans.{Broken, read_plan}
use Rattle.lu_grammar.proofs.Plans.{err_is_not_ok}
use Rattle.lu_grammar.proofs.Codecs.{record_at-kept, all_unbroken, same-of}
use Rattle.freq_skips.specs.declared.rules.RuledTerm.{RuledTerm}
use Rattle.freq_skips.specs.declared.datum.Point.{Point}
use Rattle.freq_skips.specs.Records.{datum_shape, skip_of, datum_length}
use Rattle.freq_skips.specs.Entries.{Posting, postings_from}
use Rattle.freq_skips.specs.Levels.{no_point, level_of, level_count, stride, data_count, wanted, datum_conditions, differs, level_data, level_plan, levels, AreData}
use Rattle.freq_skips.specs.Walks.{start_in, value_from, points_in}
use Rattle.freq_skips.specs.Points.{is_highest}
use Rattle.freq_skips.specs.Finding.{LevelsLeft, LevelStands}
use Rattle.freq_skips.proofs.Powers.{power-pos, greatest_power-low}
use Rattle.freq_skips.proofs.LevelLemmas.{Follows-end}
use Rattle.freq_skips.proofs.WalkLemmas.{levels-drop, levels-read, levels-points}
use Rattle.freq_skips.proofs.AgainLemmas.{datum-again, datum-bytes, datum-long}

-- a number that is wanted is the one that stands there
pub differs-not : (n m : ℕ) → differs (Some n) m ≡ false → n ≡ m
differs-not n m e = same-of n m e

-- each level that a term has has data
pub level-has : (t : RuledTerm) (m : ℕ) → 2 ≤ t.rules.skip_interval → m < level_count t → 0 < data_count t m
level-has t m two lt =
    let s = t.rules.skip_interval in
    let k = level_count t - 1 in
    let low = greatest_power-low s t.info.doc_freq t.rules.max_levels k (let e : level_count t ≡ suc k = omega arith in e) in
    let up : stride t m ≤ s ^ suc k = pow-le-pow_right (omega arith) (omega arith) in
    let pos : 0 < stride t m = power-pos s (suc m) two in
    let le : 1 ≤ data_count t m = (le-div_iff_mul-le pos).1 (omega arith) in
    omega arith

-- the data of a level whose length is told end so many bytes behind their start
pub AreData-end : (t : RuledTerm) (ps : List Posting) (level n : ℕ) (above : List (List Point)) (frq : List ℕ) (begin : ℕ) (points : List Point) (end : Cursor) → IsBytes frq → begin ≤ length frq → 0 < data_count t level
    → AreData t ps (level_of level (Some n) above) (place_in frq begin) points end → (end ≡ place_in frq (begin + n)) × (begin + n ≤ length frq)
AreData-end t ps level n above frq begin points end fits le some all =
    let l = level_of level (Some n) above in
    let m = data_count t level - 1 in
    let last : suc m ≡ data_count t level = omega arith in
    let a = datum-again t ps l (place_in frq begin) points end m all (omega arith) in
    let bytes = datum-bytes t ps l frq begin points m fits le a in
    let w = wanted t ps l (suc m) in
    let conditions = datum_conditions t w begin a.last a.here.place in
    let kept = all_unbroken (conditions a.read) (record_at-kept (datum_shape t level) conditions a.here a.read a.next a.good) in
    let long = datum-long level (skip_of a.read) bytes.0.front bytes.0.spelled in
    let size : w.size ≡ Some n = rw (eq-eqb (suc m) (data_count t level) last) refl in
    let is : n ≡ a.here.place + datum_length (skip_of a.read) - begin = differs-not n _ (subst (λ (o : Option ℕ). differs o (a.here.place + datum_length (skip_of a.read) - begin) ≡ false) size kept.1.1.1.1.1.0) in
    let place : a.next.place ≡ begin + n = omega (arith, is, long, bytes.0.end, bytes.1) in
    let ends = Follows-end t ps l (place_in frq begin) points end (suc m) (slice_index_or points m no_point) a.next all a.behind last in
    (ends ∙ bytes.0.next_is ∙ ap (λ (k : ℕ). place_in frq k) place, omega (arith, place, bytes.0.next_within))

-- above a level is none, or the next level of the term
above-cases : (t : RuledTerm) (frq : List ℕ) (number place : ℕ) (above : List (List Point)) (end : Cursor) → length above + number ≡ level_count t
    → read_plan (levels t (postings_from t (start_in t frq)) number above) (place_in frq place) ≡ Ok ((value_from t (start_in t frq)).levels, end)
    → (number ≡ level_count t) ⊎ ((rest : List (List Point)) × (above ≡ points_in t frq number ∷ rest))
above-cases t frq number place above end count reads = go above refl
  where
    found : List (List Point)
    found = (value_from t (start_in t frq)).levels

    go : (list : List (List Point)) → above ≡ list → (number ≡ level_count t) ⊎ ((rest : List (List Point)) × (above ≡ points_in t frq number ∷ rest))
    go [] e = inl (omega (arith, count, ap length e))
    go (ps ∷ rest) e =
        let dropped : drop number found ≡ ps ∷ rest = levels-drop t (postings_from t (start_in t frq)) number above (place_in frq place) found end reads ∙ e in
        let first : get_or found number [] ≡ ps = ap (λ (k : ℕ). get_or found k []) (let z : number ≡ number + 0 = omega arith in z) ∙ sym (get_or-drop number found 0 []) ∙ ap (λ (l : List (List Point)). get_or l 0 []) dropped in
        inr (rest, e ∙ ap (λ (l : List Point). l ∷ rest) (sym first))

-- what was read of the level that is next
pub record NextLevel (t : RuledTerm) (frq : List ℕ) (number place begin : ℕ) (stated : Option ℕ) (above : List (List Point)) : Type 0 where
  pub end : Cursor
  pub all : AreData t (postings_from t (start_in t frq)) (level_of number stated above) (place_in frq begin) (points_in t frq number) end
  pub last : Cursor
  pub rest : read_plan (levels t (postings_from t (start_in t frq)) number (points_in t frq number ∷ above)) end ≡ Ok ((value_from t (start_in t frq)).levels, last)

pub next-level : (t : RuledTerm) (frq : List ℕ) (number place begin : ℕ) (stated : Option ℕ) (h : LevelsLeft t frq (suc number) place)
    → read_plan (level_plan t (postings_from t (start_in t frq)) number h.above) (place_in frq place) ≡ read_plan (level_data t (postings_from t (start_in t frq)) (level_of number stated h.above)) (place_in frq begin)
    → NextLevel t frq number place begin stated h.above
next-level t frq number place begin stated h same =
    let ps = postings_from t (start_in t frq) in
    let found = (value_from t (start_in t frq)).levels in
    let one = levels-read t ps (suc number) number h.above (place_in frq place) found h.end refl h.reads in
    let points = levels-points t ps number one.0.points h.above one.1 found h.end one.3 in
    record {
      end = one.1;
      all = record { along = one.0; reads = sym same ∙ one.2; points_are = sym points };
      last = h.end;
      rest = ap (λ (p : List Point). read_plan (levels t ps number (p ∷ h.above)) one.1) points ∙ one.3;
    }

-- the level that is next stands where its data start
pub LevelsLeft-stands : (t : RuledTerm) (frq : List ℕ) (number place begin : ℕ) (stated : Option ℕ) (h : LevelsLeft t frq (suc number) place) → begin ≤ length frq → NextLevel t frq number place begin stated h.above → LevelStands t frq number begin
LevelsLeft-stands t frq number place begin stated h le next = record {
  stated = stated;
  above = h.above;
  end = next.end;
  all = next.all;
  within = le;
  above_is = above-cases t frq (suc number) place h.above h.end h.above_count h.reads;
}

-- and where its length is told, those below it are left behind its data
pub LevelsLeft-next : (t : RuledTerm) (frq : List ℕ) (number place begin n : ℕ) (h : LevelsLeft t frq (suc number) place) → IsBytes frq → 2 ≤ t.rules.skip_interval → begin ≤ length frq → NextLevel t frq number place begin (Some n) h.above
    → LevelsLeft t frq number (begin + n)
LevelsLeft-next t frq number place begin n h fits two le next =
    let count = h.above_count in
    let some = level-has t number two (omega (arith, count)) in
    let ends = AreData-end t (postings_from t (start_in t frq)) number n h.above frq begin (points_in t frq number) next.end fits le some next.all in
    record {
      within = ends.1;
      above = points_in t frq number ∷ h.above;
      above_count = omega (arith, count);
      end = next.last;
      reads = ap (λ (d : Cursor). read_plan (levels t (postings_from t (start_in t frq)) number (points_in t frq number ∷ h.above)) d) (sym ends.0) ∙ next.rest;
    }

-- the level is the highest exactly where none is above it
pub highest-above : (t : RuledTerm) (number above : ℕ) → above + suc number ≡ level_count t → is_highest t number ≡ (above == 0)
highest-above t number above count = elim (cases_eq above 0) [
  | inl none ↦ eq-eqb (suc number) (level_count t) (omega arith) ∙ sym (eq-eqb above 0 none)
  | inr some ↦ ne_eqb (suc number) (level_count t) (λ e. some (omega arith)) ∙ sym (ne_eqb above 0 some)
]

-- what was told of the bounds of the next level: it stands there, and the levels below it are left behind it
pub bounds-are : (t : RuledTerm) (frq : List ℕ) (number place begin end : ℕ) (stated : Option ℕ) (h : LevelsLeft t frq (suc number) place) → IsBytes frq → 2 ≤ t.rules.skip_interval → begin ≤ length frq → length frq < 2 ^ 64
    → ((number ≡ 0) ⊎ ((n : ℕ) × (stated ≡ Some n))) → MatchOption stated (end ≡ begin) (λ n. end ≡ min (begin + n) 18446744073709551615)
    → read_plan (level_plan t (postings_from t (start_in t frq)) number h.above) (place_in frq place) ≡ read_plan (level_data t (postings_from t (start_in t frq)) (level_of number stated h.above)) (place_in frq begin)
    → LevelStands t frq number begin × (0 < number → LevelsLeft t frq number end)
bounds-are t frq number place begin end stated h fits two le small which at same =
    let next = next-level t frq number place begin stated h same in
    (LevelsLeft-stands t frq number place begin stated h le next, λ lt. go which at next lt)
  where
    told : (n : ℕ) → end ≡ min (begin + n) 18446744073709551615 → LevelsLeft t frq number (begin + n) → LevelsLeft t frq number end
    told n is left = let w = left.within in subst (λ (k : ℕ). LevelsLeft t frq number k) (let e : begin + n ≡ end = omega (arith, w, is, small) in e) left

    go : (number ≡ 0) ⊎ ((n : ℕ) × (stated ≡ Some n)) → MatchOption stated (end ≡ begin) (λ n. end ≡ min (begin + n) 18446744073709551615) → NextLevel t frq number place begin stated h.above → 0 < number → LevelsLeft t frq number end
    go (inl zero_is) at next lt = absurd (omega arith)
    go (inr (n, is)) at next lt =
        told n (subst (λ (o : Option ℕ). MatchOption o (end ≡ begin) (λ k. end ≡ min (begin + k) 18446744073709551615)) is at)
        (LevelsLeft-next t frq number place begin n h fits two le (subst (λ (o : Option ℕ). NextLevel t frq number place begin o h.above) is next))

-- no fault is found where it stands
pub level-unbroken : (t : RuledTerm) (frq : List ℕ) (number place : ℕ) (b : Broken) (h : LevelsLeft t frq (suc number) place) → read_plan (level_plan t (postings_from t (start_in t frq)) number h.above) (place_in frq place) ≡ Err b → ⊥
level-unbroken t frq number place b h broken =
    let one = levels-read t (postings_from t (start_in t frq)) (suc number) number h.above (place_in frq place) (value_from t (start_in t frq)).levels h.end refl h.reads in
    err_is_not_ok (sym broken ∙ one.2)
