use Rattle.std.proofs.Common.{◌≡◌, map, take}
use Rattle.lu_types.specs.Tables.{TableField}
use Rattle.lu_model.specs.Contents.{field_number}
use Rattle.seg_merger.proofs.tables.numbers_in.Given as goal

abbrev pub invariant-loop-number : goal.invariant-loop-number
invariant-loop-number l = l.numbers.items ≡ map (λ (field : TableField). field_number field.name l.table) (take l.number l.fields)
