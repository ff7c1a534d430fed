use Rattle.std.proofs.Common.{length, sym, ap, ◌∙◌}
use Rattle.doc_marks.specs.Marking.{documents_of}
use Rattle.doc_marks.proofs.MarksLemmas.{documents-marks, count-below}
use Rattle.doc_marks.proofs.marks.Marks.count.Goals as goal

pub returns-clause-count : goal.returns-clause-count
returns-clause-count c =
    let m = c.self.inside in
    sym c.self.invariant.number ∙ ap length (sym (documents-marks m.size m.count m.bytes.items c.self.invariant)) ∙ ap (λ fs. length (documents_of fs)) c.self.view_is

pub returns-clause-few : goal.returns-clause-few
returns-clause-few c = let m = c.self.inside in count-below m.size m.count m.bytes.items c.self.invariant
