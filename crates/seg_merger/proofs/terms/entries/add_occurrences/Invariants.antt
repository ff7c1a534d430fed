use Rattle.std.proofs.Common.{◌≡◌, ◌+◌, ◌++◌, List, [], length, false, if◌then◌else◌}
use Rattle.lu_types.specs.Occurrences.{Occurrence}
use Rattle.lu_model.specs.Index.{IndexedEntry}
use Rattle.seg_merger.specs.TermSteps.{AreWritable, HasEntryOccurrences, TermPlace}
use Rattle.seg_merger.proofs.terms.entries.add_occurrences.Given as goal

abbrev pub invariant-loop-more : goal.invariant-loop-more
invariant-loop-more l = record {
  writable : AreWritable l.writer.prox.position l.postings.left;
  lists : l.writer.lists ≡ l.initial.writer.lists;
  begun : (at : TermPlace) (es : List IndexedEntry) → HasEntryOccurrences at es [] l.initial.writer → (now : List Occurrence) × HasEntryOccurrences at es now l.writer × (now ++ l.postings.left ≡ l.initial.postings.left);
  walk : l.postings ≡ record l.initial.postings { left = l.postings.left };
  ended : l.more ≡ false → l.postings.left ≡ [];
}

abbrev pub decreases-loop-more : goal.decreases-loop-more
decreases-loop-more l = length l.postings.left + (if l.more then 1 else 0)
