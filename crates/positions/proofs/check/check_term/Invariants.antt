use Rattle.std.proofs.Common.{◌≡◌, ◌-◌, ◌≤◌, length}
use Rattle.lu_grammar.specs.Bytes.{place_in}
use Rattle.freq_skips.specs.Terms.{ruled_by}
use Rattle.positions.specs.Standing.{StandsIn}
use Rattle.positions.specs.Walked.{posted_by}
use Rattle.positions.proofs.check.check_term.Given as goal

abbrev pub invariant-loop-walked : goal.invariant-loop-walked
invariant-loop-walked l = record {
  term : l.walk.term ≡ ruled_by l.info l.rules;
  value : l.walk.value ≡ l.initial.walk.value;
  count : length l.walk.value.postings ≡ l.walk.term.info.doc_freq;
  within : l.walk.passed ≤ length l.walk.value.postings;
  payloads : l.reading.payloads ≡ l.walk.term.rules.payloads;
  stands : StandsIn (posted_by l.walk) (place_in l.prx l.at) l.walk.passed 0 l.reading.force 0 l.reading.cur;
}

abbrev pub decreases-loop-walked : goal.decreases-loop-walked
decreases-loop-walked l = length l.walk.value.postings - l.walk.passed
