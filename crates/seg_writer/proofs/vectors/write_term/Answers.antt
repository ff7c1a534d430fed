use Rattle.seg_writer.proofs.VectorLoopLemmas.{spans-due}
use Rattle.seg_writer.proofs.vectors.write_term.Goals as goal

pub write_offsets-requires-clause-positions : goal.write_offsets-requires-clause-positions
write_offsets-requires-clause-positions c =
    let term = c.args.term.now in
    let begun = c.in_ok-begin_term.ensures.ok in
    (spans-due c.args.bits c.args.tokens.now term c.args.writer.now c.begin_term.new.self c.write_positions.new.writer c.requires.bits begun c.in_ok-write_positions.ensures).0

pub write_offsets-requires-clause-lacking : goal.write_offsets-requires-clause-lacking
write_offsets-requires-clause-lacking c =
    let term = c.args.term.now in
    let begun = c.in_ok-begin_term.ensures.ok in
    (spans-due c.args.bits c.args.tokens.now term c.args.writer.now c.begin_term.new.self c.write_positions.new.writer c.requires.bits begun c.in_ok-write_positions.ensures).1
