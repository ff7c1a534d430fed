use Rattle.std.proofs.Common.{◌≡◌, ◌++◌, ◌≤◌, drop}
use Rattle.doc_marks.specs.Spelling.{pairs_bytes}
use Rattle.doc_marks.proofs.writing.put_pairs.Given as goal

-- what is written, and what is left, are all pairs
abbrev pub invariant-loop-byte : goal.invariant-loop-byte
invariant-loop-byte l = record {
  left : l.out.items ++ pairs_bytes l.last l.byte-index (drop l.byte-index l.bytes) ≡ l.fn.out.items ++ pairs_bytes 0 0 l.bytes;
  same : l.index ≡ l.byte-index;
  below : l.last ≤ l.byte-index;
}
