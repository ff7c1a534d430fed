use Rattle.std.proofs.Common.{length, sym, ap, ◌∙◌}
use Rattle.doc_marks.proofs.MarksLemmas.{length-marks}
use Rattle.doc_marks.proofs.marks.Marks.size.Goals as goal

pub returns-clause-size : goal.returns-clause-size
returns-clause-size c = let m = c.self.inside in sym (length-marks m.size m.count m.bytes.items c.self.invariant) ∙ ap length c.self.view_is
