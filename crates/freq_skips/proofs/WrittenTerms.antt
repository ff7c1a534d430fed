-- The skip levels that were written are good.
use Rattle.std.proofs.Common.{◌≡◌, ℕ, zero, suc, add-one, ◌+◌, ◌-◌, ◌*◌, ◌/◌, ◌%◌, ◌^◌, ◌<◌, ◌≤◌, eqb, true≢false, Bool, true, false, not, List, [], ◌∷◌, ◌++◌, length, get_or, Option, Some, None, inl, inr, refl, sym, ap, subst, ◌∙◌, append_assoc, arith}
use Rattle.std.specs.Prelude.{◌==◌, ◌&&◌, nat_lt, slice_index_or}
use Rattle.std.proofs.lemmas.Bool.{cases_eq, cases_lt, eq-eqb, ne_eqb, eqb-true}
use Rattle.std.proofs.lemmas.List.{length-append, append-nil}
use Rattle.std.proofs.Math.ListN.{get_or-append}
use Rattle.std.proofs.Math.Seq.{get_or-append_seam}
use Rattle.lu_grammar.specs.Parts.{vlong, spelling}
use Rattle.lu_grammar.specs.Plans.{times, read_plan}
use Rattle.lu_grammar.proofs.Records.{at}
use Rattle.lu_grammar.proofs.Writers.{Writes, Writes-due}
use Rattle.freq_skips.specs.declared.rules.RuledTerm.{RuledTerm}
use Rattle.freq_skips.specs.declared.datum.Point.{Point}
use Rattle.freq_skips.specs.Records.{level_length, length_of, length_shape}
use Rattle.freq_skips.specs.Entries.{Posting}
use Rattle.freq_skips.specs.Levels.{Along, no_datum, no_point, level_of, number_or, posting_at, child_above, length_at, differs, length_conditions, datum_kind, data_count, level_data, level_plan, levels}
use Rattle.freq_skips.specs.Written.{SkipLevel, mark_after, bytes_to_child, child_after, child_pointer, written_skip, data_bytes, data_number, level_above, with_level_length, skip_bytes, place_with}
use Rattle.freq_skips.proofs.Powers.{quotient-next, quotient-below, multiple-index}
use Rattle.freq_skips.proofs.LevelsLemmas.{levels-next}
use Rattle.freq_skips.proofs.WrittenEntries.{Stated, not-same, and-false}
use Rattle.freq_skips.proofs.WrittenLevels.{IsUpTo, Rises, written_point, written_points, written_along, written_points-length, Writes-data}

-- no level, and one level more
pub skip_bytes-none : (r : SkipLevel) (k : ℕ) → k ≡ 0 → skip_bytes k r ≡ []
unfolding skip_bytes
skip_bytes-none r zero e = refl
skip_bytes-none r (suc k) e = cc

pub skip_bytes-next : (r : SkipLevel) (k n : ℕ) → n ≡ suc k → skip_bytes n r ≡ skip_bytes k (level_above r) ++ with_level_length r.number (data_bytes r (data_number r))
unfolding skip_bytes
skip_bytes-next r k n e = ap (λ (m : ℕ). skip_bytes m r) e

-- the length of a level is stated where it is not the lowest, and its data start behind it
abbrev pub stated_for : ℕ → List ℕ → Option ℕ
stated_for zero bytes = None
stated_for (suc n) bytes = Some (length bytes)

abbrev pub base_for : ℕ → ℕ → List ℕ → ℕ
base_for zero place bytes = place
base_for (suc n) place bytes = place + length (spelling vlong (length bytes))

-- a level is written
Writes-with_level_length : (t : RuledTerm) (ps : List Posting) (n : ℕ) (above : List (List Point)) (place : ℕ) (bytes : List ℕ) (s : Along) → length bytes < 2 ^ 63 → (((length above == 0) ≡ true) → place ≡ t.info.freq + t.info.skip)
    → Writes (level_data t ps (level_of n (stated_for n bytes) above)) (base_for n place bytes) bytes s → Writes (level_plan t ps n above) place (with_level_length n bytes) s
Writes-with_level_length t ps zero above place bytes s small at w = w
Writes-with_level_length t ps (suc n) above place bytes s small at w =
    Writes-due length_shape (length_conditions t (level_of (suc n) None above)) (λ p r. level_data t ps (level_of (suc n) (Some (length_of r)) above)) place (level_length (length bytes)) (spelling vlong (length bytes)) bytes s
    (length bytes, [], small, sym (append-nil (spelling vlong (length bytes))), (refl, refl))
    (let test : (length above == 0 && not (place == t.info.freq + t.info.skip)) ≡ false = and-false (length above == 0) (not (place == t.info.freq + t.info.skip)) (λ e. not-same place _ (at e)) in rw test refl) w

pub Writes-level : (t : RuledTerm) (ps : List Posting) (r : SkipLevel) (above : List (List Point)) (place : ℕ) → data_number r ≡ data_count t r.number → length (data_bytes r (data_number r)) < 2 ^ 63 → (((length above == 0) ≡ true) → place ≡ t.info.freq + t.info.skip)
    → Rises t ps r above (stated_for r.number (data_bytes r (data_number r))) (base_for r.number place (data_bytes r (data_number r)))
    → Writes (level_plan t ps r.number above) place (with_level_length r.number (data_bytes r (data_number r))) (written_along r (base_for r.number place (data_bytes r (data_number r))) (data_number r))
Writes-level t ps r above place few small at h =
    let bytes = data_bytes r (data_number r) in
    let base = base_for r.number place bytes in
    let l = level_of r.number (stated_for r.number bytes) above in
    let s = written_along r base (data_number r) in
    Writes-with_level_length t ps r.number above place bytes s small at
    (subst (λ (n : ℕ). Writes (times (datum_kind t ps l) n no_datum) base bytes s) few (Writes-data t ps r above (stated_for r.number bytes) base (data_number r) h (omega arith)))

-- ---- child pointers

pub written_points-at : (r : SkipLevel) (base count j : ℕ) → j < count → get_or (written_points r base count) j no_point ≡ written_point r base j
written_points-at r base zero j lt = absurd (omega arith)
written_points-at r base (suc c) j lt = elim (cases_lt j c) [
  | inl low ↦ get_or-append (written_points r base c) (written_point r base c ∷ []) no_point j (omega (arith, written_points-length r base c)) ∙ written_points-at r base c j low
  | inr ge ↦
      let is : j ≡ c = omega arith in
      ap (λ (n : ℕ). get_or (written_points r base (suc c)) n no_point) (is ∙ sym (written_points-length r base c)) ∙ get_or-append_seam (written_points r base c) (written_point r base c) [] no_point ∙ ap (written_point r base) (sym is)
]

-- ---- all levels

-- the marks of a level lead to the entries that its data belong to
pub record Leads (t : RuledTerm) (ps : List Posting) (r : SkipLevel) : Type 0 where
  pub interval : r.interval ≡ t.rules.skip_interval
  pub payloads : r.payloads ≡ t.rules.payloads
  pub count : data_number r ≡ data_count t r.number
  pub up : (m : ℕ) → m < data_number r → IsUpTo (mark_after r m) (mark_after r (suc m))
  pub doc : (m : ℕ) → m < data_number r → (mark_after r (suc m)).doc ≡ (posting_at t r.number ps (suc m)).before
  pub freq : (m : ℕ) → m < data_number r → (mark_after r (suc m)).freq ≡ (posting_at t r.number ps (suc m)).place - t.info.freq
  pub omit : (m : ℕ) → m < data_number r → t.rules.omit_tf ≡ true → (mark_after r (suc m)).prox ≡ 0
  pub small : (m : ℕ) → m < data_number r → ((mark_after r (suc m)).doc < 2 ^ 31) × ((mark_after r (suc m)).freq < 2 ^ 31) × ((mark_after r (suc m)).prox < 2 ^ 31)
  pub child_small : (m : ℕ) → m < data_number r → Stated vlong (nat_lt 0 r.number) (child_after r m)
  pub above_count : data_number (level_above r) ≡ data_number r / t.rules.skip_interval
  pub bytes_small : length (data_bytes r (data_number r)) < 2 ^ 63

abbrev pub AllLead : RuledTerm → List Posting → ℕ → SkipLevel → Type 0
AllLead t ps zero r = Unit {0}
AllLead t ps (suc k) r = Leads t ps r × AllLead t ps k (level_above r)

-- where the data of so many levels from this one on lead, the nearest first
abbrev pub found_points : ℕ → SkipLevel → ℕ → List (List Point)
found_points zero r place = []
found_points (suc k) r place = written_points r (base_for r.number (place + length (skip_bytes k (level_above r))) (data_bytes r (data_number r))) (data_number r) ∷ found_points k (level_above r) place

-- the child pointers of the level above
child-is : (r : SkipLevel) (m : ℕ) → 2 ≤ r.interval → (m + 1) % r.interval ≡ 0 → number_or 0 (child_after (level_above r) (m / r.interval)) ≡ length (data_bytes r m) + length (bytes_to_child (written_skip r m))
unfolding child_pointer
child-is r m two e =
    let index : suc (m / r.interval) * r.interval - 1 ≡ m = multiple-index m r.interval (m / r.interval) (omega arith) e refl ∙ (omega arith) in
    ap (λ (k : ℕ). place_with r (child_after r) k) index

child-found : (t : RuledTerm) (ps : List Posting) (k : ℕ) (r : SkipLevel) (place m : ℕ) → 2 ≤ t.rules.skip_interval → Leads t ps r → data_number (level_above r) ≡ data_number r / t.rules.skip_interval → m < data_number r
    → differs (child_above t (found_points k (level_above r) place) (suc m)) (length (data_bytes r m) + length (bytes_to_child (written_skip r m))) ≡ false
child-found t ps zero r place m two h many lt = refl
child-found t ps (suc k) r place m two h many lt =
    let s = t.rules.skip_interval in
    let up = level_above r in
    let base = base_for up.number (place + length (skip_bytes k (level_above up))) (data_bytes up (data_number up)) in
    let points = written_points up base (data_number up) in
    elim (cases_eq ((m + 1) % s) 0) [
      | inl e ↦
          let test : eqb (suc m % s) 0 ≡ true = eq-eqb _ _ (ap (λ (n : ℕ). n % s) (sym (add-one m)) ∙ e) in
          let next = quotient-next m s (omega arith) e in
          let index : suc m / s - 1 ≡ m / s = omega arith in
          let own : (m + 1) % r.interval ≡ 0 = ap (λ (n : ℕ). (m + 1) % n) h.interval ∙ e in
          let within : m / s < data_number up = subst (λ (n : ℕ). m / s < n) (sym many) (quotient-below m s (data_number r) (omega arith) e lt) in
          let here = child-is r m (subst (λ (n : ℕ). 2 ≤ n) (sym h.interval) two) own in
          let is : (slice_index_or points (suc m / s - 1) no_point).child ≡ length (data_bytes r m) + length (bytes_to_child (written_skip r m)) =
          ap (λ (n : ℕ). (slice_index_or points n no_point).child) index ∙ ap (λ (p : Point). p.child) (written_points-at up base (data_number up) (m / s) within)
          ∙ ap (λ (n : ℕ). number_or 0 (child_after up (m / n))) (sym h.interval) ∙ here in
          rw test (not-same _ _ is)
      | inr ne ↦
          let test : eqb (suc m % s) 0 ≡ false = ne_eqb _ _ (λ z. ne (ap (λ (n : ℕ). n % s) (add-one m) ∙ z)) in
          rw test refl
    ]

size-found : (t : RuledTerm) (ps : List Posting) (r : SkipLevel) (above : List (List Point)) (m : ℕ) → Leads t ps r → m < data_number r
    → differs (length_at t (level_of r.number (stated_for r.number (data_bytes r (data_number r))) above) (suc m)) (length (data_bytes r (suc m))) ≡ false
size-found t ps r above m h lt = elim (cases_eq (suc m) (data_count t r.number)) [
  | inl e ↦
      let test : eqb (suc m) (data_count t r.number) ≡ true = eq-eqb _ _ e in
      rw test (last r.number (data_bytes r (data_number r)) (length (data_bytes r (suc m))) (ap (λ (n : ℕ). length (data_bytes r n)) (h.count ∙ sym e)))
  | inr ne ↦ let test : eqb (suc m) (data_count t r.number) ≡ false = ne_eqb _ _ ne in rw test refl
]
  where
    last : (n : ℕ) (bytes : List ℕ) (size : ℕ) → length bytes ≡ size → differs (stated_for n bytes) size ≡ false
    last zero bytes size e = refl
    last (suc n) bytes size e = not-same _ _ e

-- no level is above where none was written
none-found : (k : ℕ) (r : SkipLevel) (place : ℕ) → (length (found_points k r place) == 0) ≡ true → k ≡ 0
none-found zero r place e = refl
none-found (suc k) r place e = absurd (true≢false (sym e ∙ ne_eqb (suc (length (found_points k (level_above r) place))) 0 (λ z. absurd (omega arith))))

start-found : (t : RuledTerm) (k : ℕ) (r : SkipLevel) (place : ℕ) → place ≡ t.info.freq + t.info.skip → (length (found_points k r place) == 0) ≡ true → place + length (skip_bytes k r) ≡ t.info.freq + t.info.skip
start-found t k r place at e = let none = ap length (skip_bytes-none r k (none-found k r place e)) in omega arith

and-both : (a b c : Bool) → (a && b && c) ≡ true → (a ≡ true) × (b ≡ true)
and-both true true c e = (refl, refl)
and-both true false c e = absurd (true≢false (sym e))
and-both false b c e = absurd (true≢false (sym e))

base-lowest : (n place : ℕ) (bytes : List ℕ) → n ≡ 0 → base_for n place bytes ≡ place
base-lowest zero place bytes e = refl
base-lowest (suc n) place bytes e = absurd (omega arith)

Rises-found : (t : RuledTerm) (ps : List Posting) (k : ℕ) (r : SkipLevel) (place : ℕ) → 2 ≤ t.rules.skip_interval → place ≡ t.info.freq + t.info.skip → Leads t ps r
    → Rises t ps r (found_points k (level_above r) place) (stated_for r.number (data_bytes r (data_number r))) (base_for r.number (place + length (skip_bytes k (level_above r))) (data_bytes r (data_number r)))
Rises-found t ps k r place two at h = record {
  payloads = h.payloads;
  up = h.up;
  doc = h.doc;
  freq = h.freq;
  omit = h.omit;
  small = h.small;
  child = λ m lt. child-found t ps k r place m two h h.above_count lt;
  size = λ m lt. size-found t ps r (found_points k (level_above r) place) m h lt;
  first = λ e.
      let both = and-both (r.number == 0) (length (found_points k (level_above r) place) == 0) (1 == 1) e in
      base-lowest r.number _ (data_bytes r (data_number r)) (eqb-true r.number 0 both.0) ∙ start-found t k (level_above r) place at both.1;
  child_small = h.child_small;
}

-- so many levels from the highest down to this one
pub levels-written : (t : RuledTerm) (ps : List Posting) (k : ℕ) (r : SkipLevel) (place : ℕ) (rest : List ℕ) → 2 ≤ t.rules.skip_interval → place ≡ t.info.freq + t.info.skip → AllLead t ps k r
    → read_plan (levels t ps (k + r.number) []) (at place (skip_bytes k r ++ rest)) ≡ read_plan (levels t ps r.number (found_points k r place)) (at (place + length (skip_bytes k r)) rest)
levels-written t ps zero r place rest two start all =
    let none = skip_bytes-none r 0 refl in
    ap (λ (b : List ℕ). read_plan (levels t ps (0 + r.number) []) (at place (b ++ rest))) none
    ∙ ap (λ (n : ℕ). read_plan (levels t ps n []) (at place rest)) (let z : 0 + r.number ≡ r.number = omega arith in z)
    ∙ ap (λ (n : ℕ). read_plan (levels t ps r.number []) (at n rest)) (let z : place ≡ place + length (skip_bytes 0 r) = omega (arith, ap length none) in z)
levels-written t ps (suc k) r place rest two start all =
    let up = skip_bytes k (level_above r) in
    let bytes = data_bytes r (data_number r) in
    let own = with_level_length r.number bytes in
    let above = found_points k (level_above r) place in
    let here = place + length up in
    let base = base_for r.number here bytes in
    let is = skip_bytes-next r k (suc k) refl in
    let w = Writes-level t ps r above here all.0.count all.0.bytes_small (start-found t k (level_above r) place start) (Rises-found t ps k r place two start all.0) in
    ap (λ (b : List ℕ). read_plan (levels t ps (suc k + r.number) []) (at place (b ++ rest))) is
    ∙ ap (λ (b : List ℕ). read_plan (levels t ps (suc k + r.number) []) (at place b)) (append_assoc up own rest)
    ∙ ap (λ (n : ℕ). read_plan (levels t ps n []) (at place (up ++ (own ++ rest)))) (let z : suc k + r.number ≡ k + suc r.number = omega arith in z)
    ∙ levels-written t ps k (level_above r) place (own ++ rest) two start all.1
    ∙ levels-next t ps (suc r.number) r.number above (at here (own ++ rest)) (written_along r base (data_number r)) (at (here + length own) rest) refl (w.reads rest)
    ∙ ap (λ (n : ℕ). read_plan (levels t ps r.number (found_points (suc k) r place)) (at n rest)) (let z : here + length own ≡ place + length (skip_bytes (suc k) r) = omega (arith, ap length is, length-append up own) in z)
