use Rattle.std.proofs.Common.{◌≡◌, ◌≤◌, ◌+◌, ◌*◌, ◌||◌, length, drop}
use Rattle.doc_marks.specs.Marking.{marked, flags, places}
use Rattle.doc_marks.specs.Deletions.{is_past}
use Rattle.doc_marks.proofs.dense.body_broken.Given as goal

-- what the bytes so far mark, and what the others mark
abbrev pub invariant-loop-byte : goal.invariant-loop-byte
invariant-loop-byte l = record {
  count : length (marked l.body) ≡ l.documents + length (places (8 * l.byte-index) (flags (drop l.byte-index l.body)));
  past : is_past l.segment.size (marked l.body) ≡ (l.is_past || is_past l.segment.size (places (8 * l.byte-index) (flags (drop l.byte-index l.body))));
  few : l.documents ≤ 8 * l.byte-index;
  same : l.index ≡ l.byte-index;
}
