-- What the written form of terms is read as.
use Rattle.std.proofs.Common.{◌≡◌, ℕ, suc, ◌+◌, ◌-◌, ◌%◌, ◌^◌, ◌<◌, ◌≤◌, Bool, true, false, eqb, ltb, cond, List, [], ◌∷◌, ◌++◌, length, drop, map, Option, Some, None, refl, sym, ap, subst, ◌∙◌, arith, length-drop}
use Rattle.std.specs.Prelude.{All}
use Rattle.std.specs.List.{AllByRecursion}
use Rattle.lu_grammar.proofs.Parts.{IsBytes-drop}
use Rattle.std.specs.Option.{unwrap_or}
use Rattle.std.specs.Ordering.{is_lt}
use Rattle.std.specs.declared.cmp.Ordering.{Ordering}
use Rattle.std.specs.declared.cmp.Ordering.TheVariants.{Less}
use Rattle.std.specs.Str.{is_utf8}
use Rattle.std.specs.List.Sorted.{IsStrictlySortedBy, IsNonDecreasing}
use Rattle.std.proofs.lemmas.Bool.{le-ltb, ne_eqb}
use Rattle.std.proofs.lemmas.List.{append-nil}
use Rattle.std.proofs.lemmas.Str.{is_utf8-from_IsUtf8}
use Rattle.lu_prims.specs.Order.{text_cmp}
use Rattle.lu_types.specs.Bits.{has_bit}
use Rattle.lu_grammar.specs.Bytes.{IsBytes}
use Rattle.lu_grammar.specs.Parts.{vint, num, spelling}
use Rattle.lu_grammar.specs.Records.{first_broken, Spells}
use Rattle.lu_grammar.specs.Plans.{Plan, done, and_then}
use Rattle.lu_grammar.proofs.Codecs.{Writes, Writes-due, Writes-done, Writes-and_then, IsBytes-utf8}
use Rattle.lu_model.specs.Index.{Span, VectorTerm}
use Rattle.lu_model.specs.Valid.{IsSmall, AreAsMany, IsVectorTerm}
use Rattle.lu_types.specs.Stores.{greatest_place}
use Rattle.term_vectors.specs.Format.{start_modulus, bit_positions, bit_offsets, headed}
use Rattle.term_vectors.specs.Vectors.{TvfRecord, position, pair, term, position_shape, position_after, position_conditions, positions_plan, pair_shape, span_after, pair_conditions, spans_plan, text_after, is_above, freq_of, kept_count, term_shape, term_conditions, term_plan, terms_plan}
use Rattle.term_vectors.specs.VectorBytes.{vector_positions_bytes, start_delta, span_bytes, vector_spans_bytes, shared_length, term_front_bytes, vector_term_bytes, vector_terms_bytes}
use Rattle.term_vectors.proofs.SharedLemmas.{shared-within, shared-again}

-- a value before those of a plan
pub writes-headed : {V R : Type 0} (v : V) (plan : Plan (List V) R) (place : ℕ) (front : List ℕ) (vs : List V) → Writes plan place front vs → Writes (headed v plan) place front (v ∷ vs)
writes-headed {V} {R} v plan place front vs w =
    subst (λ (t : List ℕ). Writes (headed v plan) place t (v ∷ vs)) (append-nil front)
    (Writes-and_then plan (λ vs. done (v ∷ vs)) place front [] vs (v ∷ vs) w (Writes-done (place + length front) (v ∷ vs)))

-- ---- positions

-- positions rise from one, and are below 2^31
AreRising : ℕ → List ℕ → Type 0
AreRising last [] = Unit {0}
AreRising last (p ∷ ps) = (last ≤ p) × (p < 2 ^ 31) × AreRising p ps

rising : (last : ℕ) (ps : List ℕ) → All (λ p. last ≤ p) ps → IsNonDecreasing ps → All IsSmall ps → AreRising last ps
unfolding AreRising
rising last [] from rise small = tt
rising last (p ∷ ps) from rise small = (
  from 0 0 (omega arith),
  small 0 0 (omega arith),
  rising p ps (λ k d lt. rise 0 (suc k) d (omega arith) (omega (arith, lt))) (λ i j d le lt. rise (suc i) (suc j) d (omega (arith, le)) (omega (arith, lt))) (λ k d lt. small (suc k) d (omega (arith, lt))),
)

position_good : (last p : ℕ) → last ≤ p → p < 2 ^ 31 → first_broken (position_conditions last (position (p - last))) ≡ None
position_good last p le lt = let fits : ltb greatest_place (last + (p - last)) ≡ false = le-ltb greatest_place (last + (p - last)) (omega (arith, le, lt)) in rw fits refl

writes-positions : (ps : List ℕ) (last place : ℕ) → AreRising last ps → Writes (positions_plan (length ps) last) place (vector_positions_bytes last ps) ps
unfolding AreRising positions_plan vector_positions_bytes
writes-positions [] last place h = Writes-done place []
writes-positions (p ∷ ps) last place (le, lt, rest) =
    let front = spelling vint (p - last) in
    let here = place + length front in
    let is : last + (p - last) ≡ p = omega (arith, le) in
    let after : ℕ → Plan (List ℕ) TvfRecord = λ q. headed q (positions_plan (length ps) q) in
    let tail : Writes (after (last + (p - last))) here (vector_positions_bytes p ps) (p ∷ ps) =
    subst (λ (q : ℕ). Writes (after q) here (vector_positions_bytes p ps) (p ∷ ps)) (sym is)
    (writes-headed p (positions_plan (length ps) p) here (vector_positions_bytes p ps) ps (writes-positions ps p here rest)) in
    let fits : p - last < 2 ^ 32 = omega (arith, lt) in
    Writes-due position_shape (λ _ r. position_conditions last r) (λ _ r. headed (position_after last r) (positions_plan (length ps) (position_after last r))) place (position (p - last)) front
    (vector_positions_bytes p ps) (p ∷ ps) (p - last, [], fits, sym (append-nil front), (refl, refl)) (position_good last p le lt) tail

-- ---- spans

-- spans end not before they start, and below 2^31
AreWithinLimit : List Span → Type 0
AreWithinLimit [] = Unit {0}
AreWithinLimit (s ∷ ss) = (s.start ≤ s.end) × (s.end < 2 ^ 31) × AreWithinLimit ss

no_span : Span
no_span = record { start = 0; end = 0 }

within_limit : (ss : List Span) → All (λ span. (span.start ≤ span.end) × IsSmall span.end) ss → AreWithinLimit ss
unfolding AreWithinLimit
within_limit [] h = tt
within_limit (s ∷ ss) h = let first = h 0 s (omega arith) in (first.0, first.1, within_limit ss (λ k d lt. h (suc k) d (omega (arith, lt))))

-- a start comes back from its difference
start_back : (last start : ℕ) → last < 2 ^ 31 → start < 2 ^ 31 → (last + start_delta last start) % start_modulus ≡ start
start_back last start a b = omega (arith, a, b)

far_fits : (last start : ℕ) → start_delta last start < 2 ^ 32
far_fits last start = omega arith

span_back : (last : ℕ) (s : Span) → last < 2 ^ 31 → s.start ≤ s.end → s.end < 2 ^ 31 → span_after last (pair (start_delta last s.start) (s.end - s.start)) ≡ s
span_back last s low le lt =
    ap (λ (n : ℕ). from n (n + (s.end - s.start))) (start_back last s.start low (omega (arith, le, lt))) ∙ ap (λ (n : ℕ). from s.start n) (let e : s.start + (s.end - s.start) ≡ s.end = omega (arith, le) in e)
  where
    from : ℕ → ℕ → Span
    from start end = record { start = start; end = end }

span_good : (last : ℕ) (s : Span) (r : TvfRecord) → span_after last r ≡ s → s.start ≤ s.end → s.end < 2 ^ 31 → first_broken (pair_conditions last r) ≡ None
span_good last s r is le lt =
    let start : ltb greatest_place (span_after last r).start ≡ false = le-ltb greatest_place (span_after last r).start (omega (arith, ap (λ (x : Span). x.start) is, le, lt)) in
    let end : ltb greatest_place (span_after last r).end ≡ false = le-ltb greatest_place (span_after last r).end (omega (arith, ap (λ (x : Span). x.end) is, lt)) in
    rw (start, end) refl

writes-spans : (ss : List Span) (last place : ℕ) → last < 2 ^ 31 → AreWithinLimit ss → Writes (spans_plan (length ss) last) place (vector_spans_bytes last ss) ss
unfolding AreWithinLimit spans_plan vector_spans_bytes
writes-spans [] last place low h = Writes-done place []
writes-spans (s ∷ ss) last place low (le, lt, rest) =
    let far = start_delta last s.start in
    let long = s.end - s.start in
    let front = span_bytes last s in
    let here = place + length front in
    let is = span_back last s low le lt in
    let after : Span → Plan (List Span) TvfRecord = λ x. headed x (spans_plan (length ss) x.end) in
    let tail : Writes (after (span_after last (pair far long))) here (vector_spans_bytes s.end ss) (s ∷ ss) =
    subst (λ (x : Span). Writes (after x) here (vector_spans_bytes s.end ss) (s ∷ ss)) (sym is)
    (writes-headed s (spans_plan (length ss) s.end) here (vector_spans_bytes s.end ss) ss (writes-spans ss s.end here lt rest)) in
    let long_fits : long < 2 ^ 31 = omega (arith, lt) in
    Writes-due pair_shape (λ _ r. pair_conditions last r) (λ _ r. headed (span_after last r) (spans_plan (length ss) (span_after last r).end)) place (pair far long) front (vector_spans_bytes s.end ss) (s ∷ ss)
    (far, spelling num long, far_fits last s.start, refl, (long, [], long_fits, sym (append-nil (spelling num long)), (refl, refl))) (span_good last s (pair far long) is le lt) tail

-- ---- a term

-- as many are kept as there are
kept_all : {X : Type 0} (bit bits freq : ℕ) (xs : List X) → AreAsMany bit bits freq xs → kept_count bit bits freq ≡ length xs
kept_all {X} bit bits freq xs h = go (has_bit bit bits) refl
  where
    go : (b : Bool) → has_bit bit bits ≡ b → cond b freq 0 ≡ length xs
    go true is = sym (h.0 is)
    go false is = sym (ap (λ (ys : List X). length ys) (h.1 is))

module _ (bits : ℕ) (before : Option (List ℕ)) (t : VectorTerm) (above : is_above before t.text ≡ true) (good : IsVectorTerm bits t) where
  base : List ℕ
  base = unwrap_or before []

  abbrev prefix : ℕ
  prefix = shared_length (unwrap_or before []) t.text

  abbrev suffix : List ℕ
  suffix = drop (shared_length (unwrap_or before []) t.text) t.text

  abbrev written : TvfRecord
  written = term prefix suffix t.frequency

  again : text_after before written ≡ t.text
  again = shared-again (unwrap_or before []) t.text

  term_good : first_broken (term_conditions before written) ≡ None
  term_good =
      let shared : ltb (length (unwrap_or before [])) prefix ≡ false = le-ltb (length (unwrap_or before [])) prefix (shared-within (unwrap_or before []) t.text).0 in
      let utf8 : is_utf8 (text_after before written) ≡ true = ap (λ (x : List ℕ). is_utf8 x) again ∙ is_utf8-from_IsUtf8 t.text good.text.0 in
      let order : is_above before (text_after before written) ≡ true = ap (λ (x : List ℕ). is_above before x) again ∙ above in
      let some : eqb t.frequency 0 ≡ false = ne_eqb t.frequency 0 (λ e. absurd (omega (arith, e, good.some))) in
      rw (shared, utf8, order, some) refl

  term_spells : Spells term_shape written (term_front_bytes (unwrap_or before []) t.text t.frequency)
  term_spells =
      let long : prefix < 2 ^ 31 = omega (arith, (shared-within (unwrap_or before []) t.text).1, good.text.1) in
      let rest : length suffix < 2 ^ 31 = omega (arith, length-drop prefix t.text, good.text.1) in
      let fits : IsBytes suffix = IsBytes-drop prefix t.text (IsBytes-utf8 t.text good.text.0) in (
        prefix,
        spelling num (length suffix) ++ (suffix ++ spelling num t.frequency),
        long,
        refl,
        (length suffix, suffix ++ spelling num t.frequency, rest, refl, (suffix, spelling num t.frequency, (refl, fits), refl, (t.frequency, [], good.few, sym (append-nil (spelling num t.frequency)), (refl, refl)))),
      )

  -- the term that is made of its record, its positions and its spans
  made : List ℕ → List ℕ → List Span → VectorTerm
  made text positions spans = record { text = text; frequency = t.frequency; positions = positions; spans = spans }

  pub writes-term : (place : ℕ) → Writes (term_plan bits before) place (vector_term_bytes (unwrap_or before []) t) t
  writes-term place =
      let front = term_front_bytes (unwrap_or before []) t.text t.frequency in
      let here = place + length front in
      let ps = vector_positions_bytes 0 t.positions in
      let ss = vector_spans_bytes 0 t.spans in
      let last : List ℕ → List Span → Plan VectorTerm TvfRecord = λ positions spans. done (record { text = text_after before written; frequency = t.frequency; positions = positions; spans = spans }) in
      let positions : Writes (positions_plan (kept_count bit_positions bits t.frequency) 0) here ps t.positions =
      subst (λ (n : ℕ). Writes (positions_plan n 0) here ps t.positions) (sym (kept_all bit_positions bits t.frequency t.positions good.positions))
      (writes-positions t.positions 0 here (rising 0 t.positions (λ k d lt. omega arith) good.rise good.low)) in
      let spans : Writes (spans_plan (kept_count bit_offsets bits t.frequency) 0) (here + length ps) ss t.spans =
      subst (λ (n : ℕ). Writes (spans_plan n 0) (here + length ps) ss t.spans) (sym (kept_all bit_offsets bits t.frequency t.spans good.spans))
      (writes-spans t.spans 0 (here + length ps) (omega arith) (within_limit t.spans good.within)) in
      let end : Writes (last t.positions t.spans) (here + length ps + length ss) [] t =
      subst (λ (x : List ℕ). Writes {R = TvfRecord} (done (record { text = x; frequency = t.frequency; positions = t.positions; spans = t.spans })) (here + length ps + length ss) [] t) (sym again) (Writes-done (here + length ps + length ss) t) in
      let second : Writes (and_then (spans_plan (kept_count bit_offsets bits t.frequency) 0) (last t.positions)) (here + length ps) ss t =
      subst (λ (x : List ℕ). Writes (and_then (spans_plan (kept_count bit_offsets bits t.frequency) 0) (last t.positions)) (here + length ps) x t) (append-nil ss)
      (Writes-and_then (spans_plan (kept_count bit_offsets bits t.frequency) 0) (last t.positions) (here + length ps) ss [] t.spans t spans end) in
      Writes-due term_shape (λ _ r. term_conditions before r)
      (λ _ r. and_then (positions_plan (kept_count bit_positions bits (freq_of r)) 0)
      (λ positions. and_then (spans_plan (kept_count bit_offsets bits (freq_of r)) 0)
      (λ spans. done (record { text = text_after before r; frequency = freq_of r; positions = positions; spans = spans })))) place written front (ps ++ ss) t term_spells term_good
      (Writes-and_then (positions_plan (kept_count bit_positions bits t.frequency) 0) (λ positions. and_then (spans_plan (kept_count bit_offsets bits t.frequency) 0) (last positions)) here ps ss t.positions t positions second)

-- ---- the terms of a vector

-- the texts are above one
abbrev AreTextsAbove : Option (List ℕ) → List VectorTerm → Type 0
AreTextsAbove None terms = Unit {0}
AreTextsAbove (Some s) terms = AllByRecursion (λ y. text_cmp s y ≡ Less) (map (λ t. t.text) terms)

first_above : (before : Option (List ℕ)) (t : VectorTerm) (terms : List VectorTerm) → AreTextsAbove before (t ∷ terms) → is_above before t.text ≡ true
first_above None t terms h = refl
first_above (Some s) t terms h = ap (λ (o : Ordering). is_lt o) h.0

pub writes-terms : (bits : ℕ) (terms : List VectorTerm) (before : Option (List ℕ)) (place : ℕ) → AreTextsAbove before terms → IsStrictlySortedBy text_cmp (map (λ t. t.text) terms) → All (IsVectorTerm bits) terms
    → Writes (terms_plan bits (length terms) before) place (vector_terms_bytes (unwrap_or before []) terms) terms
unfolding terms_plan vector_terms_bytes IsStrictlySortedBy
writes-terms bits [] before place above rise good = Writes-done place []
writes-terms bits (t ∷ terms) before place above rise good =
    let front = vector_term_bytes (unwrap_or before []) t in
    let here = place + length front in
    let rest = vector_terms_bytes t.text terms in
    let one : IsVectorTerm bits t = good 0 t (omega arith) in
    Writes-and_then (term_plan bits before) (λ u. headed u (terms_plan bits (length terms) (Some u.text))) place front rest t (t ∷ terms) (writes-term bits before t (first_above before t terms above) one place)
    (writes-headed t (terms_plan bits (length terms) (Some t.text)) here rest terms (writes-terms bits terms (Some t.text) here rise.0 rise.1 (λ k d lt. good (suc k) d (omega (arith, lt)))))
