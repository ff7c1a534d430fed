use Rattle.std.proofs.Common.{sym, ◌∙◌}
use Rattle.seg_writer.proofs.VectorLoopLemmas.{spans-lacking}
use Rattle.seg_writer.proofs.vectors.write_offsets.Goals as goal

pub offsets-requires-clause-positions : goal.offsets-requires-clause-positions
offsets-requires-clause-positions c =
    let k = c.loop-here.here-index in
    let lt = c.loop-here-test.true in
    (spans-lacking c.args.bits c.args.tokens.now c.args.term.now.uses.now k c.args.writer.now c.loop-here.writer (sym c.has_bit.ensures ∙ c.if-not-has_bit.false) lt c.requires.lacking c.loop-here.invariant).1 ∙ c.requires.positions

pub offsets-requires-clause-lacking : goal.offsets-requires-clause-lacking
offsets-requires-clause-lacking c =
    let k = c.loop-here.here-index in
    let lt = c.loop-here-test.true in
    (spans-lacking c.args.bits c.args.tokens.now c.args.term.now.uses.now k c.args.writer.now c.loop-here.writer (sym c.has_bit.ensures ∙ c.if-not-has_bit.false) lt c.requires.lacking c.loop-here.invariant).0
