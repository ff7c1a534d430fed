-- What a walk over a term keeps.
use Rattle.std.proofs.Common.{◌≡◌, ℕ, zero, suc, add-one, ◌+◌, ◌-◌, ◌<◌, ◌≤◌, true, List, [], ◌∷◌, length, drop, get_or, Option, Some, None, Result, Ok, Err, inl, inr, refl, sym, ap, subst, ◌∙◌, arith}
use Rattle.lu_types.specs.declared.fault.Spot.{Spot}
use Rattle.lu_types.specs.declared.kind.FileKind.TheVariants.{Frq}
use Rattle.std.specs.Prelude.{MatchResult, IfOk, slice_index_or, ◌==◌}
use Rattle.std.proofs.lemmas.List.{drop-drop, get_or-drop}
use Rattle.std.proofs.lemmas.Bool.{cases_eq, eq-eqb, ne_eqb}
use Rattle.std.proofs.Math.Nat.{le-div_iff_mul-le, zero-div}
use Rattle.lu_grammar.specs.Reading.{◌>>=◌}
use Rattle.lu_grammar.specs.Meaning.{ReadsTo}
use Rattle.lu_grammar.specs.Bytes.{IsBytes, Cursor, place_in}
use Rattle.lu_grammar.specs.Records.{Shape, Condition, record_at}
use Rattle.lu_grammar.specs.Plans.{Plan, due, broken_at, read_plan}
use Rattle.lu_grammar.proofs.Records.{ok_pair, same_pair}
use Rattle.lu_grammar.proofs.Plans.{ok_of, err_is_not_ok, read_plan-ReadsTo}
use Rattle.freq_skips.specs.declared.rules.RuledTerm.{RuledTerm}
use Rattle.freq_skips.specs.declared.datum.Point.{Point}
use Rattle.freq_skips.specs.Records.{entry_shape, datum_shape, length_shape, length_of}
use Rattle.freq_skips.specs.Entries.{Posting, AreEntries, entries, postings_from, entry_conditions}
use Rattle.freq_skips.specs.Levels.{Along, no_point, level_of, level_count, stride, data_count, wanted, datum_conditions, length_conditions, level_data, level_plan, levels, AreData}
use Rattle.freq_skips.specs.Terms.{TermData, IsGoodTerm, IsTermFault, term_plan}
use Rattle.freq_skips.specs.Walks.{read_value, value_from, start_in, IsOnLevel}
use Rattle.freq_skips.proofs.Powers.{power-pos, greatest_power-low}
use Rattle.lu_grammar.proofs.Codecs.{place_in-after, record_at-kept, all_unbroken, same-of}
use Rattle.freq_skips.proofs.LevelLemmas.{Follows-none, Follows-again}
use Rattle.freq_skips.proofs.TermLemmas.{and_then-read, TermParts, TermParts-ReadsTo}
use Rattle.freq_skips.proofs.EntryLemmas.{IsBehindEntries-none, IsBehindEntries-again}

-- the entries of a good term start at its place
pub entries-start : (t : RuledTerm) (start end : Cursor) → AreEntries t start end → 0 < t.info.doc_freq → start.place ≡ t.info.freq
entries-start t start end all some =
    let again = IsBehindEntries-again t start end 0 0 start all (IsBehindEntries-none t start) some in
    let kept = record_at-kept (entry_shape t) (entry_conditions t true 0 start.place) start again.0 again.1 again.2 in
    same-of start.place t.info.freq (all_unbroken (entry_conditions t true 0 start.place again.0) kept).0

-- the levels that were found end with those above
pub levels-drop : (t : RuledTerm) (postings : List Posting) (n : ℕ) (above : List (List Point)) (c : Cursor) (found : List (List Point)) (end : Cursor) → read_plan (levels t postings n above) c ≡ Ok (found, end) → drop n found ≡ above
unfolding levels read_plan
levels-drop t postings zero above c found end e = sym (same_pair above found c end e).0
levels-drop t postings (suc n) above c found end e = go (and_then-read (level_plan t postings n above) (λ s. levels t postings n (s.points ∷ above)) c found end e) (λ s d h. levels-drop t postings n (s.points ∷ above) d found end h)
  where
    go : ((s : Along) × (d : Cursor) × (read_plan (level_plan t postings n above) c ≡ Ok (s, d)) × (read_plan (levels t postings n (s.points ∷ above)) d ≡ ok_of (found, end))) → ((s : Along) (d : Cursor) → read_plan (levels t postings n (s.points ∷ above)) d ≡ ok_of (found, end) → drop n found ≡ s.points ∷ above) → drop (suc n) found ≡ above
    go (s, d, e, h) again =
        let rest = again s d h in
        ap (λ (k : ℕ). drop k found) (sym (add-one n)) ∙ sym (drop-drop 1 n found) ∙ ap (drop 1) rest

-- a record that is due was read
pub due-read : {V R : Type 0} (shape : Shape R) (conditions : ℕ → R → List Condition) (after : ℕ → R → Plan V R) (c : Cursor) (v : V) (e : Cursor) → read_plan (due shape conditions after) c ≡ ok_of (v, e)
    → (r : R) × (d : Cursor) × (record_at shape (conditions c.place) c ≡ ok_pair r d) × (read_plan (after c.place r) d ≡ ok_of (v, e))
unfolding read_plan
due-read {V} {R} shape conditions after c v e h = go (record_at shape (conditions c.place) c) refl h
  where
    go : (x : Result (R × Cursor) ℕ) → record_at shape (conditions c.place) c ≡ x → (broken_at c.place x >>= λ y. read_plan (after c.place y.0) y.1) ≡ ok_of (v, e)
        → (r : R) × (d : Cursor) × (record_at shape (conditions c.place) c ≡ ok_pair r d) × (read_plan (after c.place r) d ≡ ok_of (v, e))
    go (Ok y) is h = (y.0, y.1, is, h)
    go (Err rule) is h = absurd (err_is_not_ok h)

-- the highest level starts where the skip data are to start
pub level-start : (t : RuledTerm) (postings : List Posting) (m : ℕ) (mid : Cursor) (s : Along) (d : Cursor) → read_plan (level_plan t postings m []) mid ≡ ok_of (s, d) → 0 < data_count t m → mid.place ≡ t.info.freq + t.info.skip
level-start t postings zero mid s d e some =
    let all : AreData t postings (level_of 0 None []) mid s.points d = record { along = s; reads = e; points_are = refl } in
    let again = Follows-again t postings (level_of 0 None []) mid s.points d 0 no_point mid all (Follows-none t postings (level_of 0 None []) mid) some in
    let conditions = datum_conditions t (wanted t postings (level_of 0 None []) 1) mid.place no_point mid.place in
    same-of mid.place _ (all_unbroken (conditions again.0) (record_at-kept (datum_shape t 0) conditions mid again.0 again.1 again.2)).0
level-start t postings (suc n) mid s d e some =
    let conditions = length_conditions t (level_of (suc n) None []) in
    let due = due-read length_shape conditions (λ place r. level_data t postings (level_of (suc n) (Some (length_of r)) [])) mid s d e in
    same-of mid.place _ (all_unbroken (conditions mid.place due.0) (record_at-kept length_shape (conditions mid.place) mid due.0 due.1 due.2)).0

-- a level that the term has has data
pub data_count-some : (t : RuledTerm) (m : ℕ) → 2 ≤ t.rules.skip_interval → suc m ≡ level_count t → 0 < data_count t m
data_count-some t m two is =
    let low = greatest_power-low t.rules.skip_interval t.info.doc_freq t.rules.max_levels m (sym is) in
    let pos : 0 < stride t m = power-pos t.rules.skip_interval (suc m) two in
    let le : 1 ≤ data_count t m = (le-div_iff_mul-le pos).1 (omega arith) in
    omega arith

-- the highest level was read
pub level_plan-first : (t : RuledTerm) (postings : List Posting) (m : ℕ) (c : Cursor) (found : List (List Point)) (end : Cursor) → read_plan (levels t postings (suc m) []) c ≡ ok_of (found, end)
    → (s : Along) × (d : Cursor) × (read_plan (level_plan t postings m []) c ≡ ok_of (s, d))
unfolding levels
level_plan-first t postings m c found end e = let first = and_then-read (level_plan t postings m []) (λ s. levels t postings m (s.points ∷ [])) c found end e in (first.0, first.1, first.2)

-- the value of a term that is good
pub value_from-is : (t : RuledTerm) (start : Cursor) (v : TermData) (end : Cursor) → ReadsTo (term_plan t) start v end → value_from t start ≡ v
value_from-is t start v end h = ap read_value (read_plan-ReadsTo (term_plan t) start v end h)

-- the levels of a term that is good, after its entries
pub record LevelsRead (t : RuledTerm) (frq : List ℕ) (place : ℕ) : Type 0 where
  pub end : Cursor
  pub reads : read_plan (levels t (postings_from t (start_in t frq)) (level_count t) []) (place_in frq place) ≡ Ok ((value_from t (start_in t frq)).levels, end)
  pub within : place ≤ length frq

pub LevelsRead-good : (t : RuledTerm) (frq : List ℕ) → IsBytes frq → (good : IsGoodTerm t.info t.rules frq) → 0 < level_count t → LevelsRead t frq (t.info.freq + t.info.skip)
LevelsRead-good t frq fits good some = go (TermParts-ReadsTo t (start_in t frq) good.value good.end good.reads)
  where
    go : TermParts t (start_in t frq) good.value good.end → LevelsRead t frq (t.info.freq + t.info.skip)
    go parts =
        let ps = postings_from t (start_in t frq) in
        let after = place_in-after (entries t) frq t.info.freq parts.all.passed parts.mid fits good.within parts.all.reads in
        let m = level_count t - 1 in
        let is : level_count t ≡ suc m = omega arith in
        let one = level_plan-first t ps m parts.mid good.value.levels good.end (ap (λ (n : ℕ). read_plan (levels t ps n []) parts.mid) (sym is) ∙ parts.levels_read) in
        let many = data_count-some t m good.interval (sym is) in
        let at = level-start t ps m parts.mid one.0 one.1 one.2 many in
        let here : parts.mid ≡ place_in frq (t.info.freq + t.info.skip) = after.0 ∙ ap (λ (n : ℕ). place_in frq n) at in
        let v = value_from-is t (start_in t frq) good.value good.end good.reads in
        record {
          end = good.end;
          reads = ap (λ (d : Cursor). read_plan (levels t ps (level_count t) []) d) (sym here) ∙ parts.levels_read ∙ ap (λ (w : TermData). ok_of (w.levels, good.end)) (sym v);
          within = subst (λ (n : ℕ). n ≤ length frq) at after.1;
        }

-- the next level was read, and then those below it
pub levels-read : (t : RuledTerm) (postings : List Posting) (n m : ℕ) (above : List (List Point)) (c : Cursor) (found : List (List Point)) (end : Cursor) → n ≡ suc m → read_plan (levels t postings n above) c ≡ ok_of (found, end)
    → (s : Along) × (d : Cursor) × (read_plan (level_plan t postings m above) c ≡ ok_of (s, d)) × (read_plan (levels t postings m (s.points ∷ above)) d ≡ ok_of (found, end))
unfolding levels
levels-read t postings n m above c found end is e =
    and_then-read (level_plan t postings m above) (λ s. levels t postings m (s.points ∷ above)) c found end (ap (λ (k : ℕ). read_plan (levels t postings k above) c) (sym is) ∙ e)

-- its data are among those that were found
pub levels-points : (t : RuledTerm) (postings : List Posting) (m : ℕ) (points : List Point) (above : List (List Point)) (d : Cursor) (found : List (List Point)) (end : Cursor) → read_plan (levels t postings m (points ∷ above)) d ≡ ok_of (found, end)
    → slice_index_or found m [] ≡ points
levels-points t postings m points above d found end e =
    ap (λ (n : ℕ). get_or found n []) (let z : m ≡ m + 0 = omega arith in z) ∙ sym (get_or-drop m found 0 []) ∙ ap (λ (l : List (List Point)). get_or l 0 []) (levels-drop t postings m (points ∷ above) d found end e)

-- the level is the highest where none is above it
pub highest-same : (number count above : ℕ) → 0 < number → above + number ≡ count → (number - 1 + 1 == count) ≡ (above == 0)
highest-same number count above pos is = elim (cases_eq above 0) [
  | inl none ↦ eq-eqb (number - 1 + 1) count (omega arith) ∙ sym (eq-eqb above 0 none)
  | inr some ↦ ne_eqb (number - 1 + 1) count (λ e. some (omega arith)) ∙ sym (ne_eqb above 0 some)
]

-- the start of a level is a place along it
pub IsOnLevel-start : (t : RuledTerm) (postings : List Posting) (level : ℕ) (points : List Point) (frq : List ℕ) (stated : Option ℕ) (rest : List (List Point)) (begin : ℕ) (end : Cursor) → AreData t postings (level_of level stated rest) (place_in frq begin) points end
    → begin ≤ length frq → IsOnLevel t postings level points frq 0 (record { place = begin; count = 0; last = no_point })
IsOnLevel-start t postings level points frq stated rest begin end all le = record {
  stated = stated;
  rest = rest;
  begin = begin;
  end = end;
  all = all;
  follows = Follows-none t postings (level_of level stated rest) (place_in frq begin);
  number = sym (zero-div (stride t level));
  small = record { doc = omega arith; freq = omega arith; prox = omega arith };
  begin_within = le;
  within = le;
}

-- a term that was checked from somewhere starts at its place, and is good
pub IsGoodTerm-checked : (t : RuledTerm) (frq : List ℕ) (at : ℕ) (r : Result ℕ Spot) → 2 ≤ t.rules.skip_interval → at ≤ length frq → 0 < t.info.doc_freq
    → MatchResult r (λ end. (value : TermData) × ReadsTo (term_plan t) (place_in frq at) value (place_in frq end)) (λ spot. (spot.kind ≡ Frq) × IsTermFault t (place_in frq at) spot.offset spot.rule)
    → IfOk r (λ end. (at ≡ t.info.freq) × IsGoodTerm t.info t.rules frq)
IsGoodTerm-checked t frq at (Ok end) two le some h =
    let parts = TermParts-ReadsTo t (place_in frq at) h.0 (place_in frq end) h.1 in
    let is : at ≡ t.info.freq = entries-start t (place_in frq at) parts.mid parts.all some in (
      is,
      record {
        interval = two;
        within = omega arith;
        value = h.0;
        end = place_in frq end;
        reads = subst (λ (n : ℕ). ReadsTo (term_plan t) (place_in frq n) h.0 (place_in frq end)) is h.1;
      },
    )
IsGoodTerm-checked t frq at (Err spot) two le some h = tt
