use Rattle.std.proofs.Common.{◌<◌, ◌∙◌, length, arith}
use Rattle.lu_types.specs.Fields.{table_field}
use Rattle.seg_merger.proofs.JoinedLemmas.{numbers-next}
use Rattle.seg_merger.proofs.tables.numbers_in.Goals as goal

pub loop-number-preserved : goal.loop-number-preserved
loop-number-preserved c =
    let fields = c.args.fields.now in
    let i = c.loop-number.number in
    let test = c.loop-number-test.true in
    let many = c.count-number-end.ensures.count in
    let lt : i < length fields = omega (arith, test, many) in
    c.in-Ok.ensures.items ∙ numbers-next c.args.table.now fields c.loop-number.numbers.items i c.number_in.result (table_field c.in-Some.field) lt c.in-Some.ensures c.number_in.ensures.number c.loop-number.invariant
