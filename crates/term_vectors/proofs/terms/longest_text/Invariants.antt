use Rattle.term_vectors.proofs.TermWalkLemmas.{LongestWalk}
use Rattle.term_vectors.proofs.terms.longest_text.Given as goal

-- so many texts are passed
abbrev pub invariant-loop-nth : goal.invariant-loop-nth
invariant-loop-nth l = LongestWalk l.tvf l.bits l.count l.place l._nth l.here l.longest
