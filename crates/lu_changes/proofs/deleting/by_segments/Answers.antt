use Rattle.std.proofs.Common.{Some, List, ap, subst, ◌∙◌, arith, inl}
use Rattle.lu_dir.specs.Loading.{texts}
use Rattle.segment_infos.specs.declared.infos.SegInfo.{SegInfo}
use Rattle.lu_changes.specs.declared.deleting.Deletion.{Deletion}
use Rattle.lu_reads.specs.Checking.{SegmentsSay}
use Rattle.lu_changes.specs.Marked.{AreMarked}
use Rattle.lu_reads.specs.Stopping.{StopSays}
use Rattle.lu_changes.proofs.MarkedCommitLemmas.{marked-count, marked-commit}
use Rattle.lu_changes.proofs.deleting.by_segments.Goals as goal

pub by_markings-requires-clause-few : goal.by_markings-requires-clause-few
by_markings-requires-clause-few g c =
    let d = c.args.deletion in
    let marked = subst (λ (lines : List SegInfo). AreMarked (g.D.Dir.files c.args.dir.now) (texts d.names.now) d.target.field.now d.target.text.now lines c.in-Ok.markings.items) (c.as_slice-segments.ensures ∙ ap (λ (v : Deletion). v.chosen.commit.segments) c.deletion.view_is) c.in-Ok.ensures.marked in
    let count = marked-count (g.D.Dir.files c.args.dir.now) (texts d.names.now) d.target.field.now d.target.text.now d.chosen.commit c.in-Ok.markings.items marked in
    omega (arith, count, c.hold_commit.ensures.count)

pub by_markings-requires-clause-count : goal.by_markings-requires-clause-count
by_markings-requires-clause-count g c =
    let d = c.args.deletion in
    let marked = subst (λ (lines : List SegInfo). AreMarked (g.D.Dir.files c.args.dir.now) (texts d.names.now) d.target.field.now d.target.text.now lines c.in-Ok.markings.items) (c.as_slice-segments.ensures ∙ ap (λ (v : Deletion). v.chosen.commit.segments) c.deletion.view_is) c.in-Ok.ensures.marked in
    marked-count (g.D.Dir.files c.args.dir.now) (texts d.names.now) d.target.field.now d.target.text.now d.chosen.commit c.in-Ok.markings.items marked

pub by_markings-requires-clause-commit : goal.by_markings-requires-clause-commit
by_markings-requires-clause-commit g c =
    let d = c.args.deletion in
    let marked = subst (λ (lines : List SegInfo). AreMarked (g.D.Dir.files c.args.dir.now) (texts d.names.now) d.target.field.now d.target.text.now lines c.in-Ok.markings.items) (c.as_slice-segments.ensures ∙ ap (λ (v : Deletion). v.chosen.commit.segments) c.deletion.view_is) c.in-Ok.ensures.marked in
    marked-commit (g.D.Dir.files c.args.dir.now) (texts d.names.now) d.target.field.now d.target.text.now d.chosen.commit c.in-Ok.markings.items marked c.hold_commit.ensures c.requires.version

pub returns-in-Err-Said-clause-due : goal.returns-in-Err-Said-clause-due
returns-in-Err-Said-clause-due g c =
    let d = c.args.deletion in
    let files = g.D.Dir.files c.args.dir.now in
    rw c.in-Err-Said.field-0-is (inl (subst (λ (lines : List SegInfo). SegmentsSay files d.chosen.generation 0 lines (Some c.in-Err-Said.outcome)) (c.as_slice-segments.ensures ∙ ap (λ (v : Deletion). v.chosen.commit.segments) c.deletion.view_is)
    (subst (StopSays (λ outcome. SegmentsSay files d.chosen.generation 0 c.as_slice-segments.result.now (Some outcome))) c.in-Err-Said.field-0-is c.in-Err-Said.ensures.said)))
