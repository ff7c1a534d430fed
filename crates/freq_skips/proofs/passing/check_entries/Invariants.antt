use Rattle.std.proofs.Common.{◌-◌, ◌≤◌}
use Rattle.freq_skips.specs.Entries.{IsBehindEntries}
use Rattle.freq_skips.proofs.passing.check_entries.Given as goal

abbrev pub invariant-loop-passing : goal.invariant-loop-passing
invariant-loop-passing l = record {
  within : l.passing.index ≤ l.term.info.doc_freq;
  stands : IsBehindEntries l.term l.initial.passing.cur l.passing.index l.passing.doc l.passing.cur;
}

abbrev pub decreases-loop-passing : goal.decreases-loop-passing
decreases-loop-passing l = l.term.info.doc_freq - l.passing.index
