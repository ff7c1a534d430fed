use Rattle.std.proofs.Common.{length, ap, ◌∙◌, arith}
use Rattle.doc_marks.specs.Lent.{Deletions}
use Rattle.doc_marks.specs.Marking.{flags_of}
use Rattle.doc_marks.proofs.MarkLemmas.{length-flags_of}
use Rattle.seg_reader.specs.Terms.{term_named}
use Rattle.lu_changes.specs.EntryMarks.{entries_of_term}
use Rattle.lu_changes.proofs.EntryMarkLemmas.{marked-documents, marked-long}
use Rattle.lu_changes.proofs.marking.marks_with.Goals as goal

pub marks-requires : goal.marks-requires
marks-requires c = omega (arith, ap (λ (l : Deletions). l.size) c.live.ensures, c.size-size.ensures.valid.small)

pub mark_term-requires : goal.mark_term-requires
mark_term-requires c =
    let x = c.args.reader.index in
    ap length (c.in_ok-marks.ensures.marks ∙ ap (λ (l : Deletions). flags_of 0 l.size l.documents) c.live.ensures) ∙ length-flags_of 0 x.size x.deleted

pub returns-clause-long : goal.returns-clause-long
returns-clause-long c =
    let x = c.args.reader.index in
    marked-long x (entries_of_term (term_named x c.args.target.field.now c.args.target.text.now)) c.in_ok-marks.marks c.mark_term.new.marks
    (c.in_ok-marks.ensures.marks ∙ ap (λ (l : Deletions). flags_of 0 l.size l.documents) c.live.ensures) c.mark_term.ensures

pub returns-clause-marks : goal.returns-clause-marks
returns-clause-marks c =
    let x = c.args.reader.index in
    marked-documents x c.args.target.field.now c.args.target.text.now c.in_ok-marks.marks c.mark_term.new.marks
    (c.in_ok-marks.ensures.marks ∙ ap (λ (l : Deletions). flags_of 0 l.size l.documents) c.live.ensures) c.mark_term.ensures
