use Rattle.std.proofs.Common.{◌+◌, ◌-◌, ◌≤◌, length}
use Rattle.seg_reader.specs.InnerScan.{IsScan, HasRead, ArePassed}
use Rattle.seg_reader.proofs.scan.Scan.first_from.Given as goal

abbrev pub invariant-loop-entry : goal.invariant-loop-entry
invariant-loop-entry g l = record {
  scan : IsScan l.self;
  read : HasRead l.initial.self l.self;
  none : ArePassed l.initial.self l.target l.initial.self.passed l.self.passed;
  steps : l.steps + l.initial.self.passed ≤ l.initial.steps + l.self.passed;
}

abbrev pub decreases-loop-entry : goal.decreases-loop-entry
decreases-loop-entry g l = length l.self.entries.value.postings - l.self.entries.passed
