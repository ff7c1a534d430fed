use Rattle.term_vectors.specs.Stores.{places_in}
use Rattle.term_vectors.proofs.TurnLemmas.{AreLeft}
use Rattle.term_vectors.proofs.DocumentLemmas.{reads_documents}
use Rattle.term_vectors.proofs.fields.check_fields.Given as goal

-- so many documents are passed
abbrev pub invariant-loop-number : goal.invariant-loop-number
invariant-loop-number l = AreLeft (reads_documents l.fields l.fn.part.window (places_in l.fn.part.total l.tvx)) l.fn.part.total 0 l.initial.here l.number l.number l.here
