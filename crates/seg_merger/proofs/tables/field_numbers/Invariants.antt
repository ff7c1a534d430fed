use Rattle.std.proofs.Common.{take}
use Rattle.seg_merger.specs.Merged.{AreFieldNumbers}
use Rattle.seg_merger.proofs.tables.field_numbers.Given as goal

abbrev pub invariant-loop-reader : goal.invariant-loop-reader
invariant-loop-reader l = AreFieldNumbers l.table (take l.reader-index l.readers) l.numbers.items
