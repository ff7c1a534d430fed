use Rattle.std.proofs.Common.{◌≡◌, ◌+◌, ◌<◌, ℕ, length, get_or}
use Rattle.seg_merger.specs.TermNumbers.{live_before}
use Rattle.seg_merger.proofs.terms.documents.number_each.Given as goal

abbrev pub invariant-loop-doc : goal.invariant-loop-doc
invariant-loop-doc l = record {
  all : length l.numbers.items ≡ l.doc;
  next : l.next ≡ l.base + live_before l.reader.index.deleted l.doc;
  each : (d : ℕ) → d < l.doc → get_or l.numbers.items d 0 ≡ l.base + live_before l.reader.index.deleted d;
}
