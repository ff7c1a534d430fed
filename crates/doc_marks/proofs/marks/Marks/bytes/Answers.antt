use Rattle.std.proofs.Common.{ℕ, List, length, take, sym, ap, ◌∙◌, arith}
use Rattle.doc_marks.specs.Marking.{flags, marking, marked, documents_of}
use Rattle.doc_marks.specs.Spelling.{marks_of}
use Rattle.doc_marks.proofs.MarkLemmas.{marking-marked}
use Rattle.doc_marks.proofs.MarksLemmas.{documents-marks, length-marks}
use Rattle.doc_marks.proofs.marks.Marks.bytes.Goals as goal

pub returns-clause-marks : goal.returns-clause-marks
returns-clause-marks c =
    let m = c.self.inside in
    let found = m.bytes.items in
    let whole = marking-marked found c.self.invariant.fits in
    c.as_slice-bytes.ensures.value
    ∙ sym whole
    ∙ ap (λ (n : ℕ). marking 0 n (marked found)) c.self.invariant.long
    ∙ ap (λ (n : ℕ). marks_of n (marked found)) (sym (length-marks m.size m.count found c.self.invariant))
    ∙ ap (λ (docs : List ℕ). marks_of (length (take m.size (flags found))) docs) (sym (documents-marks m.size m.count found c.self.invariant))
    ∙ ap (λ fs. marks_of (length fs) (documents_of fs)) c.self.view_is

pub returns-clause-few : goal.returns-clause-few
returns-clause-few c = omega (arith, ap length c.as_slice-bytes.ensures.value, c.self.invariant.long, c.self.invariant.few)
