use Rattle.std.proofs.Common.{◌≡◌, ℕ, Bool, false, List, [], take, drop}
use Rattle.lu_types.specs.DocFaults.{AreSoundTokens}
use Rattle.lu_model.specs.Index.{IndexedEntry}
use Rattle.segment_files.specs.Postings.{PostingIntervals, KeptTerm}
use Rattle.posting_files.specs.States.{IsEntryBegun}
use Rattle.seg_writer.specs.Columns.{tokens_in_field}
use Rattle.seg_writer.specs.Entries.{listed_occurrences, tokens_at}
use Rattle.seg_writer.proofs.uses.add_occurrences.Given as goal

abbrev pub invariant-loop-here : goal.invariant-loop-here
invariant-loop-here l = record {
  sound : AreSoundTokens l.writer.prox.position (tokens_at (tokens_in_field l.place) (drop l.here-index l.run));
  lists : l.writer.lists ≡ l.initial.writer.lists;
  begun : (i : PostingIntervals) (limit : ℕ) (ts : List KeptTerm) (omit payloads : Bool) (es : List IndexedEntry) → IsEntryBegun i limit ts omit payloads es [] l.initial.writer
      → IsEntryBegun i limit ts omit payloads es (listed_occurrences false (tokens_at (tokens_in_field l.place) (take l.here-index l.run))) l.writer;
}
