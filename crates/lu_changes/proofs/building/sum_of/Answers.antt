use Rattle.std.proofs.Common.{◌<◌, List, sym, subst, arith}
use Rattle.segment_infos.specs.declared.infos.SegInfo.{SegInfo}
use Rattle.lu_reads.specs.Checking.{total_deleted}
use Rattle.lu_reads.proofs.SegmentLemmas.{deleted-total}
use Rattle.lu_changes.proofs.building.sum_of.Goals as goal

pub totals-sizes-requires-clause-deleted : goal.totals-sizes-requires-clause-deleted
totals-sizes-requires-clause-deleted c =
    let lines = c.before-2.invariant.segments in
    subst (λ (ss : List SegInfo). total_deleted ss < 2147483648) (sym c.as_slice.ensures) (omega (arith, deleted-total c.before-2.inside.segments lines.lines, lines.sizes))
