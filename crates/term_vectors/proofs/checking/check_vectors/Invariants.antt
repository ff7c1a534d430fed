use Rattle.lu_grammar.specs.Bytes.{Cursor}
use Rattle.term_vectors.specs.Stores.{places_in, slots_in}
use Rattle.term_vectors.proofs.WalkLemmas.{ArePassed}
use Rattle.term_vectors.proofs.checking.check_vectors.Given as goal

-- so many documents are passed
abbrev pub invariant-loop-number : goal.invariant-loop-number
invariant-loop-number l = (end : Cursor) × ArePassed (places_in l.total l.tvx) (slots_in (places_in l.total l.tvx) l.tvd) end l.initial.here l.number l.beside l.here
