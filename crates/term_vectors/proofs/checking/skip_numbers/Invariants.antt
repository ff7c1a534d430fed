use Rattle.std.proofs.Common.{ℕ, List, [], false}
use Rattle.term_vectors.proofs.TurnLemmas.{AreLeft}
use Rattle.term_vectors.proofs.FieldLemmas.{reads_numbers}
use Rattle.term_vectors.proofs.checking.skip_numbers.Given as goal

-- so many fields are passed
abbrev pub invariant-loop-nth : goal.invariant-loop-nth
invariant-loop-nth l = (before : List ℕ) × AreLeft (reads_numbers false []) l.count [] l.initial.beside l._nth before l.beside
