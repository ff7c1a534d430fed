use Rattle.std.proofs.Common.{ℕ, List, drop}
use Rattle.lu_types.specs.declared.document.Document.{Document}
use Rattle.seg_writer.specs.NormColumns.{IsColumnIn, AreAdded}
use Rattle.seg_writer.proofs.norms.add_column.Given as goal

abbrev pub invariant-loop-here : goal.invariant-loop-here
invariant-loop-here l = (name : List ℕ) (docs : List Document) → IsColumnIn l.column l.documents name docs → AreAdded name docs (drop l.here-index l.column) l.next l.initial.writer l.writer
