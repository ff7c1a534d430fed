use Rattle.std.proofs.Common.{take}
use Rattle.seg_writer.specs.Appearing.{AreFieldColumns}
use Rattle.seg_writer.proofs.columns.columns_of.Given as goal

abbrev pub invariant-loop-number : goal.invariant-loop-number
invariant-loop-number l = AreFieldColumns l.table (take l.number l.docs) l.columns.items
