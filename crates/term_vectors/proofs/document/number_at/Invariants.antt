use Rattle.term_vectors.proofs.SlotLemmas.{NumberWalk}
use Rattle.term_vectors.proofs.document.number_at.Given as goal

-- so many fields are passed
abbrev pub invariant-loop-i : goal.invariant-loop-i
invariant-loop-i l = NumberWalk l.count l.nth l.initial.beside l.i l.number l.beside
