use Rattle.std.proofs.Common.{ℕ, List, []}
use Rattle.term_vectors.specs.InnerFields.{HasFieldNumbers}
use Rattle.term_vectors.proofs.TurnLemmas.{AreLeft}
use Rattle.term_vectors.proofs.FieldLemmas.{reads_numbers}
use Rattle.term_vectors.proofs.fields.pass_numbers.Given as goal

-- so many fields are passed, and the set has them
abbrev pub invariant-loop-nth : goal.invariant-loop-nth
invariant-loop-nth l = (before : List ℕ) × HasFieldNumbers l.numbers before × AreLeft (reads_numbers l.asked l.fields) l.count [] l.initial.here l._nth before l.here
