use Rattle.std.proofs.Common.{◌≡◌, ◌+◌, ℕ, List, [], false, if◌then◌else◌}
use Rattle.segment_files.specs.Postings.{PostingIntervals, KeptTerm, kept_terms}
use Rattle.seg_writer.specs.Entries.{IsBetweenTerms}
use Rattle.seg_merger.specs.TermRests.{CanMerge, count, names, terms_of_all}
use Rattle.seg_merger.specs.TermSteps.{IsOn}
use Rattle.seg_merger.proofs.terms.merging.merge_all.Given as goal

abbrev pub invariant-loop-more : goal.invariant-loop-more
invariant-loop-more g l = record {
  can : CanMerge l.fields l.contest.rests;
  between : IsBetweenTerms l.writer;
  terms : (i : PostingIntervals) (limit : ℕ) (all : List KeptTerm) → IsOn i limit all (kept_terms l.fields (terms_of_all l.fields l.initial.contest.rests)) l.initial.writer → IsOn i limit all (kept_terms l.fields (terms_of_all l.fields l.contest.rests)) l.writer;
  ended : l.more ≡ false → names l.contest.rests ≡ [];
}

abbrev pub decreases-loop-more : goal.decreases-loop-more
decreases-loop-more g l = count l.contest.rests + (if l.more then 1 else 0)
