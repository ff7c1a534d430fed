use Rattle.std.proofs.Common.{◌≡◌, map, take}
use Rattle.seg_writer.proofs.VectorLoopLemmas.{position_at}
use Rattle.seg_writer.specs.VectorSteps.{with_positions}
use Rattle.seg_writer.proofs.vectors.write_positions.Given as goal

abbrev pub invariant-loop-here : goal.invariant-loop-here
invariant-loop-here l = l.writer ≡ with_positions (map (position_at l.tokens) (take l.here-index l.term.uses.now)) l.initial.writer
