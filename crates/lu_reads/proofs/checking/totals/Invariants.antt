use Rattle.std.proofs.Common.{◌≡◌, ◌+◌, drop}
use Rattle.segment_infos.specs.Values.{total_size}
use Rattle.lu_reads.specs.Checking.{total_deleted}
use Rattle.lu_reads.proofs.checking.totals.Given as goal

-- those so far, and those of the segments that are left
abbrev pub invariant-loop-place : goal.invariant-loop-place
invariant-loop-place l = (l.documents + total_size (drop l.place l.segments) ≡ total_size l.segments) × (l.deleted + total_deleted (drop l.place l.segments) ≡ total_deleted l.segments)
