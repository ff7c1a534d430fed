use Rattle.std.proofs.Common.{sym, ◌∙◌}
use Rattle.seg_writer.proofs.VectorLoopLemmas.{positions-lacking}
use Rattle.seg_writer.proofs.vectors.write_positions.Goals as goal

pub position-requires : goal.position-requires
position-requires c =
    let k = c.loop-here.here-index in
    let lt = c.loop-here-test.true in record {
      lacking = positions-lacking c.args.bits c.args.tokens.now c.args.term.now.uses.now k c.args.writer.now c.loop-here.writer (sym c.has_bit.ensures ∙ c.if-not-has_bit.false) lt c.requires.lacking c.loop-here.invariant;
    }
