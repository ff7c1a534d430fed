use Rattle.std.proofs.Common.{◌≡◌, ◌≤◌, ◌+◌, ◌*◌, ◌^◌, drop}
use Rattle.std.specs.Prelude.{sum_by}
use Rattle.lu_changes.specs.Deleting.{added_by}
use Rattle.lu_changes.proofs.deleting.total_added.Given as goal

-- those so far, and those of the segments that are left
abbrev pub invariant-loop-place : goal.invariant-loop-place
invariant-loop-place l = (l.total + sum_by added_by (drop l.place l.markings) ≡ sum_by added_by l.markings) × (l.total ≤ 2 ^ 32 * l.place)
