use Rattle.std.proofs.Common.{ℕ, List, ◌++◌, take}
use Rattle.segment_files.specs.Postings.{PostingIntervals, KeptTerm}
use Rattle.posting_files.specs.States.{ArePostings}
use Rattle.seg_writer.specs.Entries.{IsBetweenTerms}
use Rattle.seg_writer.specs.Terms.{terms_in_columns}
use Rattle.seg_writer.specs.Texts.{texts_in}
use Rattle.seg_writer.proofs.terms.write_inverted.Given as goal

abbrev pub invariant-loop-term : goal.invariant-loop-term
invariant-loop-term l = record {
  written : (i : PostingIntervals) (limit : ℕ) (ts : List KeptTerm) → ArePostings i limit ts l.initial.writer → ArePostings i limit (ts ++ terms_in_columns l.kept l.column (texts_in (take l.term-index l.terms))) l.writer;
  between : IsBetweenTerms l.writer;
}
