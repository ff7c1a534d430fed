use Rattle.std.proofs.Common.{◌≡◌, ◌-◌, ◌<◌, ◌≤◌}
use Rattle.lu_grammar.specs.Bytes.{Cursor}
use Rattle.positions.specs.Occurrences.{count_at}
use Rattle.positions.specs.Standing.{StandsIn}
use Rattle.positions.specs.Walked.{posted_by}
use Rattle.positions.proofs.check.check_entry.Given as goal

abbrev pub invariant-loop-read : goal.invariant-loop-read
invariant-loop-read l = record {
  within : l.read ≤ l.walked.freq;
  payloads : l.reading.payloads ≡ l.initial.reading.payloads;
  stands : (start : Cursor) → StandsIn (posted_by l.walk) start l.walked.index 0 l.initial.reading.force 0 l.initial.reading.cur → l.walked.index < l.walk.term.info.doc_freq → l.walked.freq ≡ count_at (posted_by l.walk) l.walked.index
      → StandsIn (posted_by l.walk) start l.walked.index l.read l.reading.force l.reading.position l.reading.cur;
}

abbrev pub decreases-loop-read : goal.decreases-loop-read
decreases-loop-read l = l.walked.freq - l.read
