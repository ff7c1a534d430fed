use Rattle.std.proofs.Common.{◌≡◌, ◌-◌, ◌∷◌, [], ℕ, suc, List, sym, ap, ◌∙◌, arith}
use Rattle.lu_grammar.proofs.Codecs.{err_is_not_ok}
use Rattle.lu_model.specs.Index.{Span}
use Rattle.term_vectors.specs.OffsetPairs.{span_of}
use Rattle.term_vectors.specs.InnerViews.{spans_left}
use Rattle.term_vectors.proofs.OccurrenceLemmas.{reads_spans, spans-broken, spans-done}
use Rattle.term_vectors.proofs.LeftLemmas.{settled_left, spans-next}
use Rattle.term_vectors.proofs.occurrences.OffsetPairs.next.Goals as goal

pub returns-then-self-eq0 : goal.returns-then-self-eq0
returns-then-self-eq0 c =
    let s = c.self.inside in
    let done = (settled_left (reads_spans 0 s.last s.here) ([], s.here) [] s.here (spans-done s.last s.here)).1 in
    let none : c.args.self.now ≡ [] = sym c.self.view_is ∙ ap (λ (n : ℕ). spans_left n s.last s.here) c.if-self-eq0.true ∙ sym done in
    (none, none)

pub unreachable-requires : goal.unreachable-requires
unreachable-requires c =
    let s = c.self.inside in
    let more : s.left ≡ suc (s.left - 1) = omega arith in
    err_is_not_ok (sym (spans-broken (s.left - 1) s.last s.here c.in-Err.field-0 c.in-Err.ensures) ∙ ap (λ (n : ℕ). reads_spans n s.last s.here) (sym more) ∙ c.self.invariant.1)

pub invariant_of-self : goal.invariant_of-self
invariant_of-self c =
    let s = c.self.inside in
    let more : s.left ≡ suc (s.left - 1) = omega arith in
    let made = c.in-Ok.ensures in
    let next = spans-next (s.left - 1) s.last s.here (spans_left s.left s.last s.here) c.self.invariant.0 made.0 c.next_pair.new.here (ap (λ (n : ℕ). reads_spans n s.last s.here) (sym more) ∙ c.self.invariant.1) made.1 in
    let there = ap (λ (x : Span). reads_spans (s.left - 1) x.end c.next_pair.new.here) made.2 ∙ next.1 in
    (c.self.invariant.0, (settled_left (reads_spans (s.left - 1) c.in-Ok.pair.end c.next_pair.new.here) ([], c.next_pair.new.here) next.0 c.self.invariant.0 there).0)

pub returns : goal.returns
returns c =
    let s = c.self.inside in
    let more : s.left ≡ suc (s.left - 1) = omega arith in
    let made = c.in-Ok.ensures in
    let next = spans-next (s.left - 1) s.last s.here (spans_left s.left s.last s.here) c.self.invariant.0 made.0 c.next_pair.new.here (ap (λ (n : ℕ). reads_spans n s.last s.here) (sym more) ∙ c.self.invariant.1) made.1 in
    let there = ap (λ (x : Span). reads_spans (s.left - 1) x.end c.next_pair.new.here) made.2 ∙ next.1 in
    sym c.self.view_is ∙ next.2 ∙ ap (λ (x : Span). x ∷ next.0) (sym made.2)
    ∙ ap (λ (rest : List Span). span_of c.in-Ok.pair ∷ rest) (settled_left (reads_spans (s.left - 1) c.in-Ok.pair.end c.next_pair.new.here) ([], c.next_pair.new.here) next.0 c.self.invariant.0 there).1
