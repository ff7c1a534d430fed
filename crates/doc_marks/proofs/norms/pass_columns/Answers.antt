use Rattle.std.proofs.Common.{refl, arith}
use Rattle.doc_marks.proofs.NormLemmas.{columns-fault, columns-step, columns-passed}
use Rattle.doc_marks.proofs.norms.pass_columns.Goals as goal

pub returns-in-Err-clause-gives : goal.returns-in-Err-clause-gives
returns-in-Err-clause-gives c =
    rw (c.at.ensures, c.place-place.ensures) (
      refl,
      columns-fault c.args.columns c.loop.counter c.args.documents c.args.cur.now c.loop.cur c.in-Err.bad c.rule_of.result c.loop-test.true c.loop.invariant.there c.loop.invariant.behind c.in-Err.ensures.0 c.rule_of.ensures,
    )

pub loop-preserved : goal.loop-preserved
loop-preserved c =
    let step = columns-step c.loop.counter c.args.documents c.args.cur.now c.loop.cur c.bytes.new.self c.loop.invariant.there c.loop.invariant.behind c.in_default.field-0.now c.in_default.ensures in
    record { there = step.0; behind = step.1 }

pub returns-clause-gives : goal.returns-clause-gives
returns-clause-gives c = columns-passed c.args.columns c.loop.counter c.args.documents c.args.cur.now c.loop.cur (omega arith) c.loop.invariant.there c.loop.invariant.behind
