use Rattle.std.proofs.Common.{None}
use Rattle.term_vectors.specs.InnerTexts.{text_before, IsSoundText}
use Rattle.term_vectors.proofs.TurnLemmas.{AreLeft}
use Rattle.term_vectors.proofs.TermLemmas.{reads_terms}
use Rattle.term_vectors.proofs.vectors.pass_vector.Given as goal

-- so many terms are passed, and the text of the last is kept
abbrev pub invariant-loop-nth : goal.invariant-loop-nth
invariant-loop-nth l = AreLeft (reads_terms l.heading.bits) l.heading.count None l.initial.here l._nth (text_before l.last) l.here × IsSoundText l.last
