use Rattle.std.proofs.Common.{◌≤◌}
use Rattle.term_dict.specs.Terms.{last_term}
use Rattle.codec_tests.proofs.term_index_tests.numbered.Given as goal

abbrev pub invariant-loop-number : goal.invariant-loop-number
invariant-loop-number l = record { freq : (last_term l.writer.terms).info.freq ≤ l.number-counter; prox : (last_term l.writer.terms).info.prox ≤ l.number-counter }
