use Rattle.std.proofs.Common.{ℕ, List, ◌++◌, take}
use Rattle.std.specs.Prelude.{flat_map}
use Rattle.segment_files.specs.Postings.{PostingIntervals, KeptTerm}
use Rattle.posting_files.specs.States.{ArePostings}
use Rattle.seg_writer.specs.Entries.{IsBetweenTerms}
use Rattle.seg_writer.specs.Terms.{kept_column_terms}
use Rattle.seg_writer.proofs.terms.write_columns.Given as goal

abbrev pub invariant-loop-here : goal.invariant-loop-here
invariant-loop-here l = record {
  written : (i : PostingIntervals) (limit : ℕ) (ts : List KeptTerm) → ArePostings i limit ts l.initial.writer → ArePostings i limit (ts ++ flat_map kept_column_terms (take l.here-index l.columns)) l.writer;
  between : IsBetweenTerms l.writer;
}
