use Rattle.term_vectors.proofs.TurnLemmas.{AreLeft}
use Rattle.term_vectors.proofs.FieldLemmas.{reads_further}
use Rattle.term_vectors.proofs.fields.pass_places.Given as goal

-- so many places are passed, the last of them this one
abbrev pub invariant-loop-nth : goal.invariant-loop-nth
invariant-loop-nth l = AreLeft reads_further l.count l.initial.last l.initial.here l._nth l.last l.here
