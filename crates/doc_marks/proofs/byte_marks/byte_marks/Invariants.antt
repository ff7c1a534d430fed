use Rattle.std.proofs.Common.{◌≡◌, ◌≤◌, ◌+◌, ◌-◌, ◌||◌, length}
use Rattle.doc_marks.specs.Marking.{bits, places}
use Rattle.doc_marks.specs.Deletions.{is_past}
use Rattle.doc_marks.proofs.byte_marks.byte_marks.Given as goal

-- what the bits so far mark, and what the others mark
abbrev pub invariant-loop-bit : goal.invariant-loop-bit
invariant-loop-bit l = record {
  documents : length (places l.first (bits 8 l.marks)) ≡ l.found.documents + length (places (l.first + l.bit) (bits (8 - l.bit) l.rest));
  past : is_past l.size (places l.first (bits 8 l.marks)) ≡ (l.found.is_past || is_past l.size (places (l.first + l.bit) (bits (8 - l.bit) l.rest)));
  few : l.found.documents ≤ l.bit;
}
