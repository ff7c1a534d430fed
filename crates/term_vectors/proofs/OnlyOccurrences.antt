-- The positions and the spans of a term that was read are spelled as the writer does; and the text behind some records.
use Rattle.std.proofs.Common.{◌≡◌, ℕ, zero, suc, ◌+◌, ◌-◌, ◌%◌, ◌^◌, ◌<◌, ◌≤◌, Bool, true, false, ◌||◌, ltb, List, [], ◌∷◌, ◌++◌, length, None, refl, sym, ap, subst, ◌∙◌, arith}
use borrow.Author.Tests.{ltb-false}
use Rattle.lu_grammar.specs.Parts.{vint, num, spelling}
use Rattle.lu_grammar.specs.Records.{Spells, first_broken}
use Rattle.lu_grammar.specs.Meaning.{Spelled, bytes_of}
use Rattle.lu_types.specs.Stores.{greatest_place}
use Rattle.lu_model.specs.Index.{Span}
use Rattle.term_vectors.specs.Format.{start_modulus, headed}
use Rattle.term_vectors.specs.Vectors.{TvfRecord, position, pair, position_shape, position_after, position_conditions, positions_plan, pair_shape, span_after, pair_conditions, spans_plan}
use Rattle.term_vectors.specs.VectorBytes.{vector_positions_bytes, start_delta, span_bytes, vector_spans_bytes}
use Rattle.term_vectors.specs.WrittenChoices.{text_behind, SharesMost, AllShareMost}
use Rattle.term_vectors.proofs.PlanRecords.{AreRecordsOf, records_done, records_due, records_headed, of_one}

-- the text behind all of the records
unfoldable pub text_after_all : List ℕ → List (Spelled TvfRecord) → List ℕ
text_after_all before [] = before
text_after_all before (s ∷ ss) = text_after_all (text_behind before s.it) ss

pub text_after-append : (before : List ℕ) (xs ys : List (Spelled TvfRecord)) → text_after_all before (xs ++ ys) ≡ text_after_all (text_after_all before xs) ys
unfolding text_after_all
text_after-append before [] ys = refl
text_after-append before (x ∷ xs) ys = text_after-append (text_behind before x.it) xs ys

-- what holds of all holds of both parts, and what holds of both holds of all
pub shares-append : (before : List ℕ) (xs ys : List (Spelled TvfRecord)) → AllShareMost before (xs ++ ys) → AllShareMost before xs × AllShareMost (text_after_all before xs) ys
unfolding AllShareMost text_after_all
shares-append before [] ys h = (tt, h)
shares-append before (x ∷ xs) ys h = let rest = shares-append (text_behind before x.it) xs ys h.1 in ((h.0, rest.0), rest.1)

pub shares-join : (before : List ℕ) (xs ys : List (Spelled TvfRecord)) → AllShareMost before xs → AllShareMost (text_after_all before xs) ys → AllShareMost before (xs ++ ys)
unfolding AllShareMost text_after_all
shares-join before [] ys front back = back
shares-join before (x ∷ xs) ys front back = (front.0, shares-join (text_behind before x.it) xs ys front.1 back)

-- records that are spelled so, of which none is a term: behind them the text before is what it was
pub record SpellsInTerm (ss : List (Spelled TvfRecord)) (wanted : List ℕ) : Type 0 where
  pub is : bytes_of ss ≡ wanted
  pub same : (before : List ℕ) → text_after_all before ss ≡ before
  pub shares : (before : List ℕ) → AllShareMost before ss

-- a record that is no term
record IsNoTerm (r : TvfRecord) : Type 0 where
  same : (before : List ℕ) → text_behind before r ≡ before
  shares : (before : List ℕ) → SharesMost before r

no-term_none : (ss : List (Spelled TvfRecord)) (wanted : List ℕ) → ss ≡ [] → [] ≡ wanted → SpellsInTerm ss wanted
unfolding AllShareMost text_after_all
no-term_none ss wanted none is = record {
  is = ap (λ (xs : List (Spelled TvfRecord)). bytes_of xs) none ∙ is;
  same = λ before. ap (λ (xs : List (Spelled TvfRecord)). text_after_all before xs) none;
  shares = λ before. subst (λ (xs : List (Spelled TvfRecord)). AllShareMost before xs) (sym none) tt;
}

no-term_more : (s : Spelled TvfRecord) (rest ss : List (Spelled TvfRecord)) (a b wanted : List ℕ) → ss ≡ s ∷ rest → s.front ≡ a → IsNoTerm s.it → SpellsInTerm rest b → a ++ b ≡ wanted → SpellsInTerm ss wanted
unfolding AllShareMost text_after_all
no-term_more s rest ss a b wanted all front one more is = record {
  is = ap (λ (xs : List (Spelled TvfRecord)). bytes_of xs) all ∙ ap (λ (t : List ℕ). t ++ bytes_of rest) front ∙ ap (λ (t : List ℕ). a ++ t) more.is ∙ is;
  same = λ before. ap (λ (xs : List (Spelled TvfRecord)). text_after_all before xs) all ∙ ap (λ (t : List ℕ). text_after_all t rest) (one.same before) ∙ more.same before;
  shares = λ before. subst (λ (xs : List (Spelled TvfRecord)). AllShareMost before xs) (sym all) (one.shares before, subst (λ (t : List ℕ). AllShareMost t rest) (sym (one.same before)) (more.shares before));
}

-- ---- positions

record SpellsPosition (last : ℕ) (s : Spelled TvfRecord) : Type 0 where
  is : s.front ≡ spelling vint (position_after last s.it - last)
  none : IsNoTerm s.it

position_spelled : (last : ℕ) (s : Spelled TvfRecord) → Spells position_shape s.it s.front → SpellsPosition last s
position_spelled last s spells =
    let one = of_one vint (λ n. position n) s.it s.front spells in
    let back : one.value ≡ last + one.value - last = omega arith in
    record {
      is = one.front_is ∙ ap (λ (n : ℕ). spelling vint n) back ∙ ap (λ (r : TvfRecord). spelling vint (position_after last r - last)) one.is;
      none = subst IsNoTerm one.is (record { same = λ before. refl; shares = λ before. tt });
    }

pub positions_only : (n last place : ℕ) (ss : List (Spelled TvfRecord)) (ps : List ℕ) → AreRecordsOf (positions_plan n last) place ss ps → SpellsInTerm ss (vector_positions_bytes last ps)
unfolding positions_plan vector_positions_bytes
positions_only zero last place ss ps h =
    let none = records_done [] ps place ss h in
    no-term_none ss (vector_positions_bytes last ps) none.0 (ap (λ (qs : List ℕ). vector_positions_bytes last qs) none.1)
positions_only (suc n) last place ss ps h =
    let parts = records_due position_shape (λ _ r. position_conditions last r) (λ _ r. headed (position_after last r) (positions_plan n (position_after last r))) place ss ps h in
    let s = parts.first in
    let p = position_after last s.it in
    let here = place + length s.front in
    let more = records_headed p (positions_plan n p) here parts.rest ps parts.others in
    let one = position_spelled last s parts.spells in
    let rest = positions_only n p here parts.rest more.0 more.1 in
    no-term_more s parts.rest ss (spelling vint (p - last)) (vector_positions_bytes p more.0) (vector_positions_bytes last ps) parts.all one.is one.none rest (ap (λ (qs : List ℕ). vector_positions_bytes last qs) (sym more.2))

-- ---- spans

record SpellsPair (last : ℕ) (s : Spelled TvfRecord) : Type 0 where
  is : s.front ≡ span_bytes last (span_after last s.it)
  low : (span_after last s.it).end < 2 ^ 31
  none : IsNoTerm s.it

not_above : (a b : Bool) → first_broken (record { rule = 113; broken = a || b } ∷ []) ≡ None → b ≡ false
not_above true b h = cc
not_above false true h = cc
not_above false false h = refl

far_back : (last far : ℕ) → last < 2 ^ 31 → far < 2 ^ 32 → far ≡ start_delta last ((last + far) % start_modulus)
far_back last far low fits = omega (arith, low, fits)

pair_spelled : (last : ℕ) (s : Spelled TvfRecord) → last < 2 ^ 31 → Spells pair_shape s.it s.front → first_broken (pair_conditions last s.it) ≡ None → SpellsPair last s
pair_spelled last s low (far, back, far_fits, front_is, tail) good =
    let one = of_one num (λ long. pair far long) s.it back tail in
    let start = (last + far) % start_modulus in
    let long_back : one.value ≡ start + one.value - start = omega arith in
    let end : (span_after last s.it).end ≤ greatest_place =
    ltb-false greatest_place (span_after last s.it).end (not_above (ltb greatest_place (span_after last s.it).start) (ltb greatest_place (span_after last s.it).end) good) in
    record {
      is = front_is ∙ ap (λ (n : ℕ). spelling vint n ++ back) (far_back last far low far_fits) ∙ ap (λ (t : List ℕ). spelling vint (start_delta last start) ++ t) (one.front_is ∙ ap (λ (n : ℕ). spelling num n) long_back)
          ∙ ap (λ (r : TvfRecord). span_bytes last (span_after last r)) one.is;
      low = omega (arith, end);
      none = subst IsNoTerm one.is (record { same = λ before. refl; shares = λ before. tt });
    }

pub spans_only : (n last place : ℕ) (ss : List (Spelled TvfRecord)) (spans : List Span) → last < 2 ^ 31 → AreRecordsOf (spans_plan n last) place ss spans → SpellsInTerm ss (vector_spans_bytes last spans)
unfolding spans_plan vector_spans_bytes
spans_only zero last place ss spans low h =
    let none = records_done [] spans place ss h in
    no-term_none ss (vector_spans_bytes last spans) none.0 (ap (λ (qs : List Span). vector_spans_bytes last qs) none.1)
spans_only (suc n) last place ss spans low h =
    let parts = records_due pair_shape (λ _ r. pair_conditions last r) (λ _ r. headed (span_after last r) (spans_plan n (span_after last r).end)) place ss spans h in
    let s = parts.first in
    let span = span_after last s.it in
    let here = place + length s.front in
    let more = records_headed span (spans_plan n span.end) here parts.rest spans parts.others in
    let one = pair_spelled last s low parts.spells parts.unbroken in
    let rest = spans_only n span.end here parts.rest more.0 one.low more.1 in
    no-term_more s parts.rest ss (span_bytes last span) (vector_spans_bytes span.end more.0) (vector_spans_bytes last spans) parts.all one.is one.none rest (ap (λ (qs : List Span). vector_spans_bytes last qs) (sym more.2))
