use Rattle.std.proofs.Common.{◌≡◌, ◌-◌, ◌∷◌, [], ℕ, suc, List, sym, ap, ◌∙◌, arith}
use Rattle.lu_grammar.proofs.Codecs.{err_is_not_ok}
use Rattle.term_vectors.specs.InnerViews.{positions_left}
use Rattle.term_vectors.proofs.OccurrenceLemmas.{reads_positions, positions-broken, positions-done}
use Rattle.term_vectors.proofs.LeftLemmas.{settled_left, positions-next}
use Rattle.term_vectors.proofs.occurrences.Positions.next.Goals as goal

pub returns-then-self-eq0 : goal.returns-then-self-eq0
returns-then-self-eq0 c =
    let s = c.self.inside in
    let done = (settled_left (reads_positions 0 s.last s.here) ([], s.here) [] s.here (positions-done s.last s.here)).1 in
    let none : c.args.self.now ≡ [] = sym c.self.view_is ∙ ap (λ (n : ℕ). positions_left n s.last s.here) c.if-self-eq0.true ∙ sym done in
    (none, none)

pub unreachable-requires : goal.unreachable-requires
unreachable-requires c =
    let s = c.self.inside in
    let more : s.left ≡ suc (s.left - 1) = omega arith in
    err_is_not_ok (sym (positions-broken (s.left - 1) s.last s.here c.in-Err.field-0 c.in-Err.ensures) ∙ ap (λ (n : ℕ). reads_positions n s.last s.here) (sym more) ∙ c.self.invariant.1)

pub invariant_of-self : goal.invariant_of-self
invariant_of-self c =
    let s = c.self.inside in
    let more : s.left ≡ suc (s.left - 1) = omega arith in
    let made = c.in-Ok.ensures in
    let next = positions-next (s.left - 1) s.last s.here (positions_left s.left s.last s.here) c.self.invariant.0 made.0 c.next_position.new.here (ap (λ (n : ℕ). reads_positions n s.last s.here) (sym more) ∙ c.self.invariant.1) made.1 in
    let there = ap (λ (n : ℕ). reads_positions (s.left - 1) n c.next_position.new.here) made.2 ∙ next.1 in
    (c.self.invariant.0, (settled_left (reads_positions (s.left - 1) c.in-Ok.position c.next_position.new.here) ([], c.next_position.new.here) next.0 c.self.invariant.0 there).0)

pub returns : goal.returns
returns c =
    let s = c.self.inside in
    let more : s.left ≡ suc (s.left - 1) = omega arith in
    let made = c.in-Ok.ensures in
    let next = positions-next (s.left - 1) s.last s.here (positions_left s.left s.last s.here) c.self.invariant.0 made.0 c.next_position.new.here (ap (λ (n : ℕ). reads_positions n s.last s.here) (sym more) ∙ c.self.invariant.1) made.1 in
    let there = ap (λ (n : ℕ). reads_positions (s.left - 1) n c.next_position.new.here) made.2 ∙ next.1 in
    sym c.self.view_is ∙ next.2 ∙ ap (λ (n : ℕ). n ∷ next.0) (sym made.2)
    ∙ ap (λ (rest : List ℕ). c.in-Ok.position ∷ rest) (settled_left (reads_positions (s.left - 1) c.in-Ok.position c.next_position.new.here) ([], c.next_position.new.here) next.0 c.self.invariant.0 there).1
