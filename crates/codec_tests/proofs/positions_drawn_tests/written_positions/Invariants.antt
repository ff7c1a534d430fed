use Rattle.std.proofs.Common.{◌≡◌}
use Rattle.codec_tests.proofs.positions_drawn_tests.written_positions.Given as goal

abbrev pub invariant-loop-occurrence : goal.invariant-loop-occurrence
invariant-loop-occurrence g l = l.writer.position ≡ l.position
