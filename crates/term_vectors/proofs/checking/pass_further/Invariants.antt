use Rattle.term_vectors.proofs.WalkLemmas.{IsWalked}
use Rattle.term_vectors.proofs.checking.pass_further.Given as goal

-- so many vectors are passed, the last of them at this place
abbrev pub invariant-loop-nth : goal.invariant-loop-nth
invariant-loop-nth l = IsWalked l.count l.place l.initial.beside l.initial.here l._nth l.before l.beside l.here
