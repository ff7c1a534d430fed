use Rattle.std.proofs.Common.{◌≡◌, ◌≤◌}
use Rattle.term_dict.specs.Terms.{last_term}
use Rattle.codec_tests.proofs.term_index_drawn_tests.written.Given as goal

abbrev pub invariant-loop-term : goal.invariant-loop-term
invariant-loop-term g l = record { skip : l.writer.skip_interval ≡ l.skip; freq : (last_term l.writer.terms).info.freq ≤ l.freq; prox : (last_term l.writer.terms).info.prox ≤ l.prox }
