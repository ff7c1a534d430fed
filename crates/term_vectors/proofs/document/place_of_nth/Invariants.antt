use Rattle.std.proofs.Common.{◌≡◌, ◌≤◌, ℕ, List}
use Rattle.lu_grammar.specs.Bytes.{Cursor}
use Rattle.lu_grammar.proofs.Codecs.{ok_pair}
use Rattle.term_vectors.proofs.FieldLemmas.{reads_further}
use Rattle.term_vectors.proofs.SlotLemmas.{PlaceWalk}
use Rattle.term_vectors.proofs.document.place_of_nth.Given as goal

-- so many places are passed, the last of them this one
abbrev pub invariant-loop-i : goal.invariant-loop-i
invariant-loop-i l = (count : ℕ) (further : List ℕ) (d : Cursor) → l.nth ≤ count → reads_further count l.place l.initial.beside ≡ ok_pair further d → PlaceWalk count l.place further d l._i l.last l.beside
