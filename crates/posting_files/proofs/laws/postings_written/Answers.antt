use Rattle.posting_files.proofs.PostingLemmas.{postings-none, postings-begun, entry-begun, entry-before, occurrence-added, entry-ended, postings-finished, postings-end}
use Rattle.posting_files.proofs.laws.postings_written.Goals as goal

pub returns : goal.returns
returns c = record {
  none = postings-none;
  begun = postings-begun;
  entry = λ i limit ts omit payloads es s h. (entry-begun i limit ts omit payloads es s h, entry-before i limit ts omit payloads es s h);
  occurrence = occurrence-added;
  ended = entry-ended;
  finished = postings-finished;
  end = postings-end;
}
