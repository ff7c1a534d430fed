use Rattle.std.proofs.Common.{◌≡◌, ◌≤◌, ◌++◌, List, drop, Option}
use Rattle.lu_dir.specs.Loading.{texts}
use Rattle.lu_outcomes.specs.declared.outcome.Outcome.{Outcome}
use Rattle.lu_changes.specs.declared.marking.Marking.{Marking}
use Rattle.lu_reads.specs.Checking.{SegmentsSay}
use Rattle.lu_changes.specs.Marked.{AreMarked}
use Rattle.lu_changes.proofs.deleting.marked_segments.Given as goal

-- what becomes of the segments that are left, or is said of them, becomes or is said of all
abbrev pub invariant-loop-place : goal.invariant-loop-place
invariant-loop-place g l = record {
  marked : (rest : List Marking) → AreMarked (g.D.Dir.files l.initial.dir) (texts l.deletion.names.now) l.deletion.target.field.now l.deletion.target.text.now (drop l.place l.segments) rest
      → AreMarked (g.D.Dir.files l.initial.dir) (texts l.deletion.names.now) l.deletion.target.field.now l.deletion.target.text.now l.segments (l.markings.items ++ rest);
  says : (said : Option Outcome) → SegmentsSay (g.D.Dir.files l.initial.dir) l.deletion.chosen.generation l.place (drop l.place l.segments) said
      → SegmentsSay (g.D.Dir.files l.initial.dir) l.deletion.chosen.generation 0 l.segments said;
  files : g.D.Dir.files l.dir ≡ g.D.Dir.files l.initial.dir;
  asked : g.D.Dir.asked l.dir ≡ g.D.Dir.asked l.initial.dir;
  later : g.D.Dir.faults l.initial.dir ≤ g.D.Dir.faults l.dir;
}
