use Rattle.std.proofs.Common.{◌-◌, ◌≤◌}
use Rattle.lu_grammar.specs.Bytes.{Cursor}
use Rattle.freq_skips.specs.Entries.{AreEntries, IsBehindEntries}
use Rattle.freq_skips.proofs.passing.Passing.pass_to.Given as goal

abbrev pub invariant-loop-self : goal.invariant-loop-self
invariant-loop-self l = record {
  within : l.initial.self.index ≤ l.target → l.self.index ≤ l.target;
  stands : (start end : Cursor) → AreEntries l.term start end → IsBehindEntries l.term start l.initial.self.index l.initial.self.doc l.initial.self.cur → IsBehindEntries l.term start l.self.index l.self.doc l.self.cur;
}

abbrev pub decreases-loop-self : goal.decreases-loop-self
decreases-loop-self l = l.target - l.self.index
