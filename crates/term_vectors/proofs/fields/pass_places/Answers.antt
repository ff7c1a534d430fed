use Rattle.std.proofs.Common.{ℕ, suc, sym, subst, arith}
use Rattle.lu_types.specs.declared.kind.FileKind.TheVariants.{Tvd}
use Rattle.lu_types.proofs.SpotLemmas.{spot-broken}
use Rattle.term_vectors.proofs.Steps.{Continues}
use Rattle.term_vectors.proofs.TurnLemmas.{none-passed, one-passed, turn-broken, all-passed}
use Rattle.term_vectors.proofs.FieldLemmas.{reads_further, further-left, further-broken, further-done}
use Rattle.term_vectors.proofs.fields.pass_places.Goals as goal

pub loop-nth-init : goal.loop-nth-init
loop-nth-init c = none-passed reads_further c.args.count c.args.place c.args.here.now

pub returns-in-Err : goal.returns-in-Err
returns-in-Err c =
    spot-broken Tvd c.place-start.result c.in-Err.rule c.at.result (reads_further c.args.count c.args.place c.args.here.now) c.at.ensures
    (rw c.place-start.ensures (turn-broken reads_further c.args.count c.args.place c.args.here.now c.loop-nth._nth c.loop-nth.last c.loop-nth.here (record { offset = c.loop-nth.here.place; rule = c.in-Err.rule })
    c.loop-nth.invariant c.loop-nth-test.true (λ n. further-broken n c.loop-nth.last c.loop-nth.here c.in-Err.rule c.in-Err.ensures)))

pub loop-nth-preserved : goal.loop-nth-preserved
loop-nth-preserved c =
    let made = c.in-Ok.ensures in
    one-passed reads_further c.args.count c.args.place c.args.here.now c.loop-nth._nth c.loop-nth.last c.in-Ok.next c.loop-nth.here c.next_place.new.here c.loop-nth.invariant c.loop-nth-test.true
    (λ n. subst (λ (k : ℕ). Continues (reads_further (suc n) c.loop-nth.last c.loop-nth.here) (reads_further n k c.next_place.new.here)) (sym made.2) (further-left n c.loop-nth.last c.loop-nth.here made.0 c.next_place.new.here made.1))

pub returns : goal.returns
returns c =
    all-passed reads_further c.args.count c.args.place c.args.here.now c.loop-nth._nth c.loop-nth.last c.loop-nth.here c.loop-nth.invariant (omega arith) (further-done c.loop-nth.last c.loop-nth.here)
