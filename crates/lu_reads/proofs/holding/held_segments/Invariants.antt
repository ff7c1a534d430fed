use Rattle.std.proofs.Common.{◌≡◌, ◌≤◌, ◌++◌, drop, List, Option}
use Rattle.lu_types.specs.declared.kind.FileKind.{FileKind}
use Rattle.lu_reads.specs.declared.holding.Held.{Held}
use Rattle.lu_reads.specs.Holding.{AreHeldOf}
use Rattle.lu_reads.proofs.holding.held_segments.Given as goal

-- what is held of the segments that are left is held, behind those so far, of all
abbrev pub invariant-loop-place : goal.invariant-loop-place
invariant-loop-place g l = record {
  held : (others : List Held) (kind : Option FileKind) → AreHeldOf (g.D.Dir.files l.initial.dir) (drop l.place l.segments) others kind → AreHeldOf (g.D.Dir.files l.initial.dir) l.segments (l.held.items ++ others) kind;
  files : g.D.Dir.files l.dir ≡ g.D.Dir.files l.initial.dir;
  asked : g.D.Dir.asked l.dir ≡ g.D.Dir.asked l.initial.dir;
  later : g.D.Dir.faults l.initial.dir ≤ g.D.Dir.faults l.dir;
}
