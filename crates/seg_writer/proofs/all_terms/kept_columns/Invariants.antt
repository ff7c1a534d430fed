use Rattle.std.proofs.Common.{◌≡◌, map, take}
use Rattle.lu_types.specs.Tables.{TableField}
use Rattle.seg_writer.specs.declared.terms.KeptColumn.{KeptColumn}
use Rattle.seg_writer.specs.Orders.{AreKeptColumns}
use Rattle.seg_writer.proofs.all_terms.kept_columns.Given as goal

abbrev pub invariant-loop-number : goal.invariant-loop-number
invariant-loop-number l = (map (λ (c : KeptColumn). c.name.now) l.kept.items ≡ map (λ (f : TableField). f.name) (take l.number l.table)) × AreKeptColumns l.table l.columns l.kept.items
