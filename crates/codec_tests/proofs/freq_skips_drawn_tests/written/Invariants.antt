use Rattle.std.proofs.Common.{◌≡◌, ◌^◌, length}
use Rattle.freq_skips.proofs.RunLemmas.{Runs}
use Rattle.codec_tests.proofs.freq_skips_drawn_tests.written.Given as goal

abbrev pub invariant-loop-given : goal.invariant-loop-given
invariant-loop-given g l = record {
  runs : Runs l.writer l.drawn.interval l.drawn.levels l.drawn.omit_tf l.drawn.payloads l.writer.bytes (2 ^ 24) (length l.writer.entries) l.next l.prox;
  place : l.freq ≡ length l.writer.bytes;
}
