use Rattle.std.proofs.Common.{None}
use Rattle.term_vectors.proofs.TurnLemmas.{AreLeft}
use Rattle.term_vectors.proofs.PlaceLemmas.{reads_places}
use Rattle.term_vectors.proofs.places.check_places.Given as goal

-- so many documents are passed
abbrev pub invariant-loop-number : goal.invariant-loop-number
invariant-loop-number l = AreLeft reads_places l.total None l.initial.here l._number l.before l.here
