-- What the terms of every vector that was read are.
use Rattle.std.proofs.Common.{◌≡◌, ℕ, zero, suc, ◌<◌, ◌≤◌, ◌^◌, Bool, true, false, ◌||◌, ltb, List, [], ◌∷◌, length, None, Ok, refl, sym, ap, subst, ◌∙◌, arith}
use Rattle.std.specs.Prelude.{All}
use Rattle.std.specs.List.Sorted.{IsNonDecreasing}
use borrow.Author.Tests.{ltb-false}
use Rattle.std.proofs.lemmas.List.Elements.{All-cons}
use Rattle.lu_grammar.specs.Bytes.{Cursor}
use Rattle.lu_grammar.specs.Records.{first_broken}
use Rattle.lu_grammar.specs.Plans.{read_plan}
use Rattle.lu_grammar.proofs.Codecs.{same_pair, due_was, record_at-was}
use Rattle.lu_types.specs.Stores.{greatest_place}
use Rattle.lu_model.specs.Index.{Span}
use Rattle.lu_model.specs.Valid.{IsSmall}
use Rattle.term_vectors.specs.Format.{headed}
use Rattle.term_vectors.specs.Vectors.{TvfRecord, format, heading, term, position, pair, position_shape, position_after, position_conditions, positions_plan, pair_shape, span_after, pair_conditions, spans_plan}
use Rattle.term_vectors.proofs.Steps.{headed_was}
use Rattle.term_vectors.proofs.OccurrenceLemmas.{reads_positions, reads_spans}

-- the one condition was not broken
not_over : (b : Bool) (rule : ℕ) → first_broken (record { rule = rule; broken = b } ∷ []) ≡ None → b ≡ false
not_over true rule h = cc
not_over false rule h = refl

-- ---- positions

-- a position is not below the one before
position-up : (last : ℕ) (r : TvfRecord) → last ≤ position_after last r
position-up last (format z) = omega arith
position-up last (heading count bits) = omega arith
position-up last (term prefix suffix freq) = omega arith
position-up last (position delta) = omega arith
position-up last (pair far long) = omega arith

-- positions that rise from one
pub record ArePositions (last : ℕ) (ps : List ℕ) : Type 0 where
  pub from : All (λ p. last ≤ p) ps
  pub low : All IsSmall ps
  pub rise : IsNonDecreasing ps

rise-cons : (p : ℕ) (ps : List ℕ) → All (λ q. p ≤ q) ps → IsNonDecreasing ps → IsNonDecreasing (p ∷ ps)
rise-cons p ps from rise zero zero d le lt = omega arith
rise-cons p ps from rise zero (suc j) d le lt = from j d (omega arith)
rise-cons p ps from rise (suc i) zero d le lt = absurd (omega arith)
rise-cons p ps from rise (suc i) (suc j) d le lt = rise i j d (omega arith) (omega arith)

pub positions-valid : (n last : ℕ) (c : Cursor) (ps : List ℕ) (d : Cursor) → reads_positions n last c ≡ Ok (ps, d) → (length ps ≡ n) × ArePositions last ps
unfolding positions_plan read_plan
positions-valid zero last c ps d e =
    let is : ps ≡ [] = sym (same_pair [] ps c d e).0 in
    (ap length is, subst (ArePositions last) (sym is) (record { from = λ k x lt. absurd (omega arith); low = λ k x lt. absurd (omega arith); rise = λ i j x le lt. absurd (omega arith) }))
positions-valid (suc n) last c ps d e =
    let head = due_was position_shape (λ _ r. position_conditions last r) (λ _ r. headed (position_after last r) (positions_plan n (position_after last r))) c (ps, d) e in
    let judged = record_at-was position_shape (position_conditions last) c head.0.0 head.0.1 head.1 in
    let p = position_after last head.0.0 in
    let rest = headed_was p (positions_plan n p) head.0.1 ps d head.2 in
    let later = positions-valid n p head.0.1 rest.0 d rest.1 in
    let up : last ≤ p = position-up last head.0.0 in
    let fits : p ≤ greatest_place = ltb-false greatest_place p (not_over (ltb greatest_place p) 112 judged.1) in
    let small : p < 2 ^ 31 = omega arith in (
      ap length rest.2 ∙ ap suc later.0,
      subst (ArePositions last) (sym rest.2) (record {
        from = All-cons (λ q. last ≤ q) p rest.0 up (λ k x lt. omega (arith, later.1.from k x lt));
        low = All-cons IsSmall p rest.0 small later.1.low;
        rise = rise-cons p rest.0 later.1.from later.1.rise;
      }),
    )

-- ---- spans

abbrev pub IsSpan : Span → Type 0
IsSpan span = (span.start ≤ span.end) × IsSmall span.end

span-up : (last : ℕ) (r : TvfRecord) → (span_after last r).start ≤ (span_after last r).end
span-up last (format z) = omega arith
span-up last (heading count bits) = omega arith
span-up last (term prefix suffix freq) = omega arith
span-up last (position delta) = omega arith
span-up last (pair far long) = omega arith

second_false : (a b : Bool) → (a || b) ≡ false → b ≡ false
second_false true b h = cc
second_false false b h = h

pub spans-valid : (n last : ℕ) (c : Cursor) (ss : List Span) (d : Cursor) → reads_spans n last c ≡ Ok (ss, d) → (length ss ≡ n) × All IsSpan ss
unfolding spans_plan read_plan
spans-valid zero last c ss d e =
    let is : ss ≡ [] = sym (same_pair [] ss c d e).0 in
    (ap length is, subst (All IsSpan) (sym is) (λ k x lt. absurd (omega arith)))
spans-valid (suc n) last c ss d e =
    let head = due_was pair_shape (λ _ r. pair_conditions last r) (λ _ r. headed (span_after last r) (spans_plan n (span_after last r).end)) c (ss, d) e in
    let judged = record_at-was pair_shape (pair_conditions last) c head.0.0 head.0.1 head.1 in
    let s = span_after last head.0.0 in
    let rest = headed_was s (spans_plan n s.end) head.0.1 ss d head.2 in
    let later = spans-valid n s.end head.0.1 rest.0 d rest.1 in
    let fits : s.end ≤ greatest_place = ltb-false greatest_place s.end (second_false (ltb greatest_place s.start) (ltb greatest_place s.end) (not_over (ltb greatest_place s.start || ltb greatest_place s.end) 113 judged.1)) in
    let small : s.end < 2 ^ 31 = omega arith in
    (ap length rest.2 ∙ ap suc later.0, subst (All IsSpan) (sym rest.2) (All-cons IsSpan s rest.0 (span-up last head.0.0, small) later.1))
