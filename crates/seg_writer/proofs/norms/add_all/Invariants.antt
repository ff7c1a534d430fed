use Rattle.std.proofs.Common.{◌≡◌, ◌++◌, List, take}
use Rattle.lu_types.specs.declared.document.Document.{Document}
use Rattle.seg_writer.specs.NormColumns.{AreColumnsIn, norm_bytes}
use Rattle.seg_writer.proofs.norms.add_all.Given as goal

abbrev pub invariant-loop-number : goal.invariant-loop-number
invariant-loop-number l = (docs : List Document) → AreColumnsIn l.fields l.columns l.documents docs → l.writer ≡ l.initial.writer ++ norm_bytes docs (take l.number l.fields)
