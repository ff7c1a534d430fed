use Rattle.std.proofs.Common.{◌≡◌, ◌+◌, ◌++◌, ◌<◌, List, [], length, map, true, false, if◌then◌else◌}
use Rattle.std.specs.List.{AllByRecursion}
use Rattle.lu_model.specs.Index.{IndexedEntry}
use Rattle.seg_reader.specs.Postings.{entries_left}
use Rattle.seg_merger.specs.TermNumbers.{HasNumber, renamed}
use Rattle.seg_merger.specs.TermSteps.{IsGoing, IsInTerm, TermPlace}
use Rattle.seg_merger.proofs.terms.entries.add_entries.Given as goal

abbrev pub invariant-loop-more : goal.invariant-loop-more
invariant-loop-more g l = record {
  numbered : AllByRecursion (λ (e : IndexedEntry). HasNumber l.docs e.document) (entries_left l.postings);
  going : (more : List IndexedEntry) × IsGoing l.bits (map (renamed l.bits l.docs) (entries_left l.postings) ++ more) l.writer;
  adds : (at : TermPlace) (all more : List IndexedEntry) → IsInTerm at all (map (renamed l.bits l.docs) (entries_left l.initial.postings) ++ more) l.initial.writer
      → IsInTerm at all (map (renamed l.bits l.docs) (entries_left l.postings) ++ more) l.writer;
  none : l.some ≡ false → entries_left l.postings ≡ entries_left l.initial.postings;
  some : l.some ≡ true → 0 < length (entries_left l.initial.postings);
  ended : l.more ≡ false → entries_left l.postings ≡ [];
}

abbrev pub decreases-loop-more : goal.decreases-loop-more
decreases-loop-more g l = length (entries_left l.postings) + (if l.more then 1 else 0)
