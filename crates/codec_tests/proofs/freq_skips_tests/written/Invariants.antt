use Rattle.std.proofs.Common.{false, []}
use Rattle.freq_skips.proofs.RunLemmas.{Runs}
use Rattle.codec_tests.proofs.freq_skips_tests.written.Given as goal

abbrev pub invariant-loop-doc : goal.invariant-loop-doc
invariant-loop-doc g l = Runs l.writer l.interval l.levels false false [] 100 l.doc l.doc l.doc
