use Rattle.std.proofs.Common.{◌≡◌, drop}
use Rattle.lu_prims.specs.Order.{bytes_cmp}
use Rattle.lu_prims.proofs.utf16.tail_cmp.Given as goal

abbrev pub invariant-loop-place : goal.invariant-loop-place
invariant-loop-place l = bytes_cmp l.a l.b ≡ bytes_cmp (drop l.place l.a) (drop l.place l.b)
