use Rattle.std.proofs.Common.{◌≡◌, ◌≤◌, drop, Option}
use Rattle.lu_outcomes.specs.declared.outcome.Outcome.{Outcome}
use Rattle.lu_reads.specs.Checking.{SegmentsSay}
use Rattle.lu_reads.proofs.checking.segments_say.Given as goal

-- what is said of the segments that are left is said of all
abbrev pub invariant-loop-place : goal.invariant-loop-place
invariant-loop-place g l = record {
  says : (said : Option Outcome) → SegmentsSay (g.D.Dir.files l.initial.dir) l.generation l.place (drop l.place l.segments) said → SegmentsSay (g.D.Dir.files l.initial.dir) l.generation 0 l.segments said;
  files : g.D.Dir.files l.dir ≡ g.D.Dir.files l.initial.dir;
  asked : g.D.Dir.asked l.dir ≡ g.D.Dir.asked l.initial.dir;
  later : g.D.Dir.faults l.initial.dir ≤ g.D.Dir.faults l.dir;
}
