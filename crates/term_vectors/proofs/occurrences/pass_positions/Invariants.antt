use Rattle.term_vectors.proofs.TurnLemmas.{AreLeft}
use Rattle.term_vectors.proofs.OccurrenceLemmas.{reads_positions}
use Rattle.term_vectors.proofs.occurrences.pass_positions.Given as goal

-- so many positions are passed, the last of them this one
abbrev pub invariant-loop-nth : goal.invariant-loop-nth
invariant-loop-nth l = AreLeft reads_positions l.count 0 l.initial.here l._nth l.last l.here
