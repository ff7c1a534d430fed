use Rattle.std.proofs.Common.{◌≡◌, ℕ, List, ◌+◌, ◌/◌, take, replicate, sym, ap, subst, ◌∙◌}
use Rattle.doc_marks.specs.Marking.{flags, AreMarks}
use Rattle.doc_marks.proofs.MarksLemmas.{marks-none, AreMarks-none}
use Rattle.doc_marks.proofs.marks.Marks.new.Goals as goal

pub invariant_of-result : goal.invariant_of-result
invariant_of-result c =
    let zeros : c.in_ok-bytes.bytes.items ≡ replicate (c.args.size / 8 + 1) 0 = c.in_ok-bytes.ensures.items_if_clones_equal (λ y e. e) in
    subst (AreMarks c.args.size 0) (sym zeros) (AreMarks-none c.args.size c.requires)

pub returns : goal.returns
returns c =
    let zeros : c.in_ok-bytes.bytes.items ≡ replicate (c.args.size / 8 + 1) 0 = c.in_ok-bytes.ensures.items_if_clones_equal (λ y e. e) in
    ap (λ (t : List ℕ). take c.args.size (flags t)) zeros ∙ marks-none c.args.size
