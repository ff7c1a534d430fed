use Rattle.seg_writer.specs.Appearing.{AreEmpty}
use Rattle.seg_writer.proofs.columns.empty_columns.Given as goal

abbrev pub invariant-loop : goal.invariant-loop
invariant-loop l = AreEmpty l.counter l.columns.items
