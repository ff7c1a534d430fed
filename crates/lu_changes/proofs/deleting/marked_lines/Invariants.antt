use Rattle.std.proofs.Common.{◌≡◌, ◌+◌, ◌++◌, length, drop}
use Rattle.std.specs.Vec.Iter.{into_iter_items}
use Rattle.lu_changes.specs.Deleting.{marked_lines}
use Rattle.lu_changes.proofs.deleting.marked_lines.Given as goal

-- the lines so far, and those that are left; a marking is left for each
abbrev pub invariant-loop-line : goal.invariant-loop-line
invariant-loop-line l = record {
  all : l.lines.items ++ marked_lines (into_iter_items l.line-iterator) (drop l.place l.markings) ≡ marked_lines l.fn.segments.items l.markings;
  count : l.place + length (into_iter_items l.line-iterator) ≡ length l.markings;
}
