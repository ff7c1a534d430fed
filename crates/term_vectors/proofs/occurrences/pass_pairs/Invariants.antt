use Rattle.term_vectors.proofs.TurnLemmas.{AreLeft}
use Rattle.term_vectors.proofs.OccurrenceLemmas.{reads_spans}
use Rattle.term_vectors.proofs.occurrences.pass_pairs.Given as goal

-- so many pairs are passed, the last of them with this end
abbrev pub invariant-loop-nth : goal.invariant-loop-nth
invariant-loop-nth l = AreLeft reads_spans l.count 0 l.initial.here l._nth l.last l.here
