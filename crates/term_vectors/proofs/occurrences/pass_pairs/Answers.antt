use Rattle.std.proofs.Common.{ℕ, suc, sym, ap, subst, arith}
use Rattle.lu_model.specs.Index.{Span}
use Rattle.lu_types.specs.declared.kind.FileKind.TheVariants.{Tvf}
use Rattle.lu_types.proofs.SpotLemmas.{spot-broken}
use Rattle.term_vectors.proofs.Steps.{Continues}
use Rattle.term_vectors.proofs.TurnLemmas.{none-passed, one-passed, turn-broken, all-passed}
use Rattle.term_vectors.proofs.OccurrenceLemmas.{reads_spans, spans-left, spans-broken, spans-done}
use Rattle.term_vectors.proofs.occurrences.pass_pairs.Goals as goal

pub loop-nth-init : goal.loop-nth-init
loop-nth-init c = none-passed reads_spans c.args.count 0 c.args.here.now

pub returns-in-Err : goal.returns-in-Err
returns-in-Err c =
    spot-broken Tvf c.place-start.result c.in-Err.rule c.at.result (reads_spans c.args.count 0 c.args.here.now) c.at.ensures
    (rw c.place-start.ensures (turn-broken reads_spans c.args.count 0 c.args.here.now c.loop-nth._nth c.loop-nth.last c.loop-nth.here (record { offset = c.loop-nth.here.place; rule = c.in-Err.rule })
    c.loop-nth.invariant c.loop-nth-test.true (λ n. spans-broken n c.loop-nth.last c.loop-nth.here c.in-Err.rule c.in-Err.ensures)))

pub loop-nth-preserved : goal.loop-nth-preserved
loop-nth-preserved c =
    let made = c.in-Ok.ensures in
    one-passed reads_spans c.args.count 0 c.args.here.now c.loop-nth._nth c.loop-nth.last c.in-Ok.pair.end c.loop-nth.here c.next_pair.new.here c.loop-nth.invariant c.loop-nth-test.true
    (λ n. subst (λ (k : ℕ). Continues (reads_spans (suc n) c.loop-nth.last c.loop-nth.here) (reads_spans n k c.next_pair.new.here)) (sym (ap (λ (s : Span). s.end) made.2))
    (spans-left n c.loop-nth.last c.loop-nth.here made.0 c.next_pair.new.here made.1))

pub returns : goal.returns
returns c =
    all-passed reads_spans c.args.count 0 c.args.here.now c.loop-nth._nth c.loop-nth.last c.loop-nth.here c.loop-nth.invariant (omega arith) (spans-done c.loop-nth.last c.loop-nth.here)
