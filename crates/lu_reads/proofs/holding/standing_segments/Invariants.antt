use Rattle.std.proofs.Common.{List, Option}
use Rattle.lu_dir.specs.Files.{Files}
use Rattle.segment_infos.specs.declared.infos.SegInfo.{SegInfo}
use Rattle.lu_reads.specs.Holding.{AreHeldOf}
use Rattle.lu_reads.proofs.HoldingLemmas.{HaveStood}
use Rattle.lu_reads.proofs.holding.standing_segments.Given as goal

-- the segments so far stand for these, and the others are left
abbrev pub invariant-loop-place : goal.invariant-loop-place
invariant-loop-place l = (files : Option Files) (lines : List SegInfo) → AreHeldOf files lines l.segments.held.items l.segments.too_large
    → HaveStood files lines l.segments.held.items l.segments.too_large l.generation l.place l.all.items
