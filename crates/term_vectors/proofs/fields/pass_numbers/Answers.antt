use Rattle.std.proofs.Common.{[], ◌∷◌, arith}
use Rattle.std.proofs.lemmas.Grind.{common_steps}
use Rattle.lu_types.specs.declared.kind.FileKind.TheVariants.{Tvd}
use Rattle.lu_types.proofs.SpotLemmas.{spot-broken}
use Rattle.term_vectors.proofs.TurnLemmas.{none-passed, one-passed, turn-broken, all-passed}
use Rattle.term_vectors.proofs.FieldLemmas.{reads_numbers, numbers-left, numbers-broken, numbers-done, numbers-more}
use Rattle.term_vectors.proofs.fields.pass_numbers.Goals as goal

pub loop-nth-init : goal.loop-nth-init
loop-nth-init c = ([], (λ q. grind (arith, common_steps, c.new-numbers.ensures.empty)), none-passed (reads_numbers c.args.asked c.args.fields.now) c.args.count [] c.args.here.now)

pub returns-in-Err : goal.returns-in-Err
returns-in-Err c =
    let (before, has, left) = c.loop-nth.invariant in
    spot-broken Tvd c.place-start.result c.in-Err.rule c.at.result (reads_numbers c.args.asked c.args.fields.now c.args.count [] c.args.here.now) c.at.ensures
    (rw c.place-start.ensures (turn-broken (reads_numbers c.args.asked c.args.fields.now) c.args.count [] c.args.here.now c.loop-nth._nth before c.loop-nth.here (record { offset = c.loop-nth.here.place; rule = c.in-Err.rule })
    left c.loop-nth-test.true (λ n. numbers-broken c.args.asked c.args.fields.now n before c.loop-nth.here c.in-Err.rule (c.in-Err.ensures before has))))

pub loop-nth-preserved : goal.loop-nth-preserved
loop-nth-preserved c =
    let (before, has, left) = c.loop-nth.invariant in (
      c.in-Ok.number ∷ before,
      numbers-more c.loop-nth.numbers c.insert.new.self c.in-Ok.number before has c.in-Ok-insert.ensures.updates,
      one-passed (reads_numbers c.args.asked c.args.fields.now) c.args.count [] c.args.here.now c.loop-nth._nth before (c.in-Ok.number ∷ before) c.loop-nth.here c.next_number.new.here left c.loop-nth-test.true
          (λ n. numbers-left c.args.asked c.args.fields.now n before c.loop-nth.here c.in-Ok.number c.next_number.new.here (c.in-Ok.ensures before has)),
    )

pub returns : goal.returns
returns c =
    let (before, has, left) = c.loop-nth.invariant in
    all-passed (reads_numbers c.args.asked c.args.fields.now) c.args.count [] c.args.here.now c.loop-nth._nth before c.loop-nth.here left (omega arith) (numbers-done c.args.asked c.args.fields.now before c.loop-nth.here)
