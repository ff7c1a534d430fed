use Rattle.std.proofs.Common.{◌≡◌, map, take}
use Rattle.seg_writer.proofs.VectorLoopLemmas.{span_at}
use Rattle.seg_writer.specs.VectorSteps.{with_spans}
use Rattle.seg_writer.proofs.vectors.write_offsets.Given as goal

abbrev pub invariant-loop-here : goal.invariant-loop-here
invariant-loop-here l = l.writer ≡ with_spans (map (span_at l.tokens) (take l.here-index l.term.uses.now)) l.initial.writer
