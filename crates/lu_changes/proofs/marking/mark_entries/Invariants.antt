use Rattle.std.proofs.Common.{◌≡◌, length}
use Rattle.seg_reader.specs.Postings.{entries_left}
use Rattle.lu_changes.specs.EntryMarks.{with_marks, AreBelow}
use Rattle.lu_changes.proofs.marking.mark_entries.Given as goal

-- the marks of the entries that are left make those of all
abbrev pub invariant-loop-doc : goal.invariant-loop-doc
invariant-loop-doc l = record {
  marks : with_marks l.marks (entries_left l.cursor) ≡ with_marks l.initial.marks (entries_left l.fn.cursor);
  long : length l.marks ≡ length l.initial.marks;
  below : AreBelow (length l.initial.marks) (entries_left l.cursor);
}

abbrev pub decreases-loop-doc : goal.decreases-loop-doc
decreases-loop-doc l = length (entries_left l.cursor)
