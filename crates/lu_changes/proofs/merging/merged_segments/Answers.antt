use Rattle.std.proofs.Common.{◌≡◌, List, length, sym, ap, subst, ◌∙◌, arith}
use Rattle.segment_infos.specs.declared.infos.SegInfo.{SegInfo}
use Rattle.check_index.specs.Segments.{SegmentValue}
use Rattle.lu_changes.specs.declared.basis.Basis.{Basis}
use Rattle.lu_changes.specs.Basis.{basis_value}
use Rattle.lu_reads.specs.Segments.{AreReadAs}
use Rattle.lu_changes.specs.Merging.{ValuesMerge}
use Rattle.lu_changes.specs.Upshots.{outcome_of}
use Rattle.lu_reads.proofs.HoldingLemmas.{held-each, held-count, read-count}
use Rattle.lu_changes.proofs.merging.merged_segments.Goals as goal

pub standing_segments-requires-clause-held : goal.standing_segments-requires-clause-held
standing_segments-requires-clause-held g c =
    held-each (g.D.Dir.files c.args.dir.now) c.as_slice.result.now c.in-Ok.held.held.items c.in-Ok.held.too_large c.in-Ok.ensures.held

pub standing_segments-requires-clause-count : goal.standing_segments-requires-clause-count
standing_segments-requires-clause-count g c =
    let same = ap (λ (lines : List SegInfo). length lines) (c.as_slice.ensures ∙ ap (λ (v : Basis). v.before.segments) c.basis.view_is) in
    omega (arith, same, c.hold_commit.ensures.count, held-count (g.D.Dir.files c.args.dir.now) c.as_slice.result.now c.in-Ok.held.held.items c.in-Ok.held.too_large c.in-Ok.ensures.held)

pub join-requires : goal.join-requires
join-requires g c =
    let files = g.D.Dir.files c.args.dir.now in
    let same = ap (λ (lines : List SegInfo). length lines) (c.as_slice.ensures ∙ ap (λ (v : Basis). v.before.segments) c.basis.view_is) in
    omega (arith, same, c.hold_commit.ensures.count, read-count files c.as_slice.result.now c.in-Ok-standing_segments.segments.items (c.in-Ok-standing_segments.ensures.stand files c.as_slice.result.now c.in-Ok.ensures.held))

pub merged_joined-requires-clause-few : goal.merged_joined-requires-clause-few
merged_joined-requires-clause-few g c =
    let files = g.D.Dir.files c.args.dir.now in
    let same = ap (λ (lines : List SegInfo). length lines) (c.as_slice.ensures ∙ ap (λ (v : Basis). v.before.segments) c.basis.view_is) in
    omega (
      arith,
      same,
      c.hold_commit.ensures.count,
      read-count files c.as_slice.result.now c.in-Ok-standing_segments.segments.items (c.in-Ok-standing_segments.ensures.stand files c.as_slice.result.now c.in-Ok.ensures.held),
      ap (λ (xs : List SegmentValue). length xs) c.in_ok-joined.ensures,
    )

pub returns-clause-merges : goal.returns-clause-merges
returns-clause-merges g c =
    let files = g.D.Dir.files c.args.dir.now in
    let basis = basis_value c.args.basis.now in
    let all = c.in-Ok-standing_segments.segments.items in
    let stand = c.in-Ok-standing_segments.ensures.stand files c.as_slice.result.now c.in-Ok.ensures.held in (
      all,
      subst (λ (lines : List SegInfo). AreReadAs files lines all) (c.as_slice.ensures ∙ ap (λ (v : Basis). v.before.segments) c.basis.view_is) stand,
      subst (λ (xs : List SegmentValue). ValuesMerge basis xs (outcome_of basis c.in_ok-merged_joined.field-0)) c.in_ok-joined.ensures c.in_ok-merged_joined.ensures.merges,
    )
