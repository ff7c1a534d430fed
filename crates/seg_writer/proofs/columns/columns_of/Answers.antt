use Rattle.seg_writer.proofs.ColumnLemmas.{columns-more, columns-none}
use Rattle.seg_writer.proofs.columns.columns_of.Goals as goal

pub loop-number-init : goal.loop-number-init
loop-number-init c = columns-none c.args.table.now c.args.docs.now c.count.result c.in_ok-columns.columns.items c.count.ensures c.in_ok-columns.ensures

pub loop-number-preserved : goal.loop-number-preserved
loop-number-preserved c = columns-more c.args.table.now c.args.docs.now c.loop-number.number c.index-docs-number.result c.as_slice.result.now c.loop-number.columns.items c.add_fields.new.columns.items c.loop-number-test.true c.index-docs-number.is c.as_slice.ensures c.loop-number.invariant c.in-Ok.ensures
