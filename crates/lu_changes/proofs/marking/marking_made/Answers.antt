use Rattle.std.proofs.Common.{ℕ, ◌-◌, length, ap, ◌∙◌, arith}
use Rattle.doc_marks.specs.Marking.{documents_of}
use Rattle.lu_dir.specs.Loading.{texts}
use Rattle.check_index.specs.Segments.{SegmentValue}
use Rattle.lu_changes.specs.Deleting.{deleted_with}
use Rattle.lu_changes.proofs.MarkingLemmas.{marking-grown, marking-same, ok-less}
use Rattle.lu_changes.proofs.marking.marking_made.Goals as goal

pub returns-then-deleted-count : goal.returns-then-deleted-count
returns-then-deleted-count c =
    let x = c.args.standing.index in
    let same = c.in_ok-reader.ensures in
    let documents = documents_of c.in_ok-marks.marks in
    let before = c.deleted-deleted.ensures ∙ ap (λ (s : SegmentValue). length s.index.deleted) same in
    let is = c.in_ok-marks.ensures.marks ∙ ap (λ (s : SegmentValue). deleted_with c.args.target.field.now c.args.target.text.now s.index) same in
    ok-less _ _ (λ marking says. says x (c.in_ok-marks.ensures.long ∙ ap (λ (s : SegmentValue). s.index.size) same)
    (ap (λ (n : ℕ). n - c.deleted-deleted.result) c.count-then-deleted-count.ensures.count ∙ ap (λ (n : ℕ). length documents - n) before)
    ∙ marking-grown (texts c.args.names.now) c.args.target.field.now c.args.target.text.now c.args.info.now x documents is
    (omega (arith, c.if-deleted-count.true, c.count.ensures.count, before)))
    c.grown.result c.grown.ensures

pub returns : goal.returns
returns c =
    let x = c.args.standing.index in
    let same = c.in_ok-reader.ensures in
    let documents = documents_of c.in_ok-marks.marks in
    let before = c.deleted-deleted.ensures ∙ ap (λ (s : SegmentValue). length s.index.deleted) same in
    let is = c.in_ok-marks.ensures.marks ∙ ap (λ (s : SegmentValue). deleted_with c.args.target.field.now c.args.target.text.now s.index) same in
    marking-same (texts c.args.names.now) c.args.target.field.now c.args.target.text.now c.args.info.now x documents is
    (omega (arith, c.if-deleted-count.false, c.count.ensures.count, before))
