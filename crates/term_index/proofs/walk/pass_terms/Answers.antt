use Rattle.std.proofs.Common.{arith}
use Rattle.term_index.proofs.PassLemmas.{HasPassed-none, HasPassed-more, HasPassed-there}
use Rattle.term_index.proofs.walk.pass_terms.Goals as goal

pub unreachable-requires : goal.unreachable-requires
unreachable-requires c = HasPassed-there c.args.cursor.now c.loop.counter c.loop.cursor c.loop.passed.info c.loop.passed.shared c.loop.invariant (omega arith) c.in_default.ensures.term

pub loop-init : goal.loop-init
loop-init c = HasPassed-none c.args.cursor.now _ _

pub loop-preserved : goal.loop-preserved
loop-preserved c =
    let h = c.loop.invariant in
    HasPassed-more c.args.cursor.now c.loop.counter c.loop.cursor c.next_shared.new.self c.loop.passed.info c.loop.passed.shared c.in-Some.next c.min.result h (omega arith) c.in-Some.ensures.term c.in-Some.ensures.passed c.min.ensures
