use Rattle.std.proofs.Common.{length, ap, sym, ◌∙◌, arith}
use Rattle.std.proofs.lemmas.List.{length-set}
use Rattle.seg_reader.specs.Postings.{next_entry, entries_left}
use Rattle.lu_changes.specs.EntryMarks.{with_marks}
use Rattle.lu_changes.proofs.EntryMarkLemmas.{answered-document, marks-more, below-first, below-others}
use Rattle.lu_changes.proofs.marking.mark_entries.Goals as goal

pub set-requires : goal.set-requires
set-requires c =
    let left = c.in-Some.ensures.left in
    let document = answered-document c.loop-doc.cursor (next_entry c.loop-doc.cursor 0) c.next.new.self c.in-Some.doc left.0 c.in-Some.ensures.document c.in-Some.ensures.walk left.1 in
    omega (arith, document, below-first (length c.args.marks.now) left.0 (entries_left c.loop-doc.cursor) (entries_left c.next.new.self) left.2 c.loop-doc.invariant.below, c.loop-doc.invariant.long)

pub loop-doc-preserved : goal.loop-doc-preserved
loop-doc-preserved c =
    let left = c.in-Some.ensures.left in
    let document = answered-document c.loop-doc.cursor (next_entry c.loop-doc.cursor 0) c.next.new.self c.in-Some.doc left.0 c.in-Some.ensures.document c.in-Some.ensures.walk left.1 in
    record {
      marks = marks-more c.loop-doc.marks c.set.new.self c.in-Some.doc left.0 (entries_left c.loop-doc.cursor) (entries_left c.next.new.self) _ left.2 document c.set.ensures.marked c.loop-doc.invariant.marks;
      long = ap length c.set.ensures.marked ∙ length-set c.loop-doc.marks c.in-Some.doc _ ∙ c.loop-doc.invariant.long;
      below = below-others (length c.args.marks.now) left.0 (entries_left c.loop-doc.cursor) (entries_left c.next.new.self) left.2 c.loop-doc.invariant.below;
    }

pub returns : goal.returns
returns c = ap (with_marks c.loop-doc.marks) (sym c.in_default.ensures.left.0) ∙ c.loop-doc.invariant.marks
