use Rattle.std.proofs.Common.{◌≡◌, drop}
use Rattle.lu_changes.specs.Deleting.{first_full}
use Rattle.lu_changes.proofs.deleting.first_full.Given as goal

-- the first of those that are left is the first of all
abbrev pub invariant-loop-place : goal.invariant-loop-place
invariant-loop-place l = first_full l.place (drop l.place l.markings) ≡ first_full 0 l.markings
