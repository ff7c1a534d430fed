use Rattle.std.proofs.Common.{◌<◌, length, arith}
use Rattle.lu_types.specs.Fields.{table_field}
use Rattle.seg_writer.specs.Orders.{NamedColumn}
use Rattle.std.proofs.Common.{ap}
use Rattle.seg_writer.proofs.KeptColumnLemmas.{field-at, kept-more, names-more, one-column}
use Rattle.seg_writer.proofs.all_terms.kept_columns.Goals as goal

pub loop-number-preserved : goal.loop-number-preserved
loop-number-preserved c =
    let table = c.args.table.now in
    let columns = c.args.columns.now in
    let number = c.loop-number.number in
    let old = c.loop-number.kept.items in
    let new = c.push.new.self.items in
    let field = table_field c.in-Some.field in
    let column = c.kept_column.result in
    let test = c.loop-number-test.true in
    let size = c.count-number-end.ensures in
    let lt : number < length table = omega (arith, test, size) in
    let is = field-at table number field lt c.in-Some.ensures in
    let named = ap (λ (x : NamedColumn). x.name) c.kept_column.ensures.column in
    let grown = c.in_ok-push-in-Some.ensures.items in (
      names-more table old new column number field lt grown named is c.loop-number.invariant.0,
      kept-more table columns old new column grown
          (one-column table columns number field c.index-columns-number.result c.as_slice.result.now column c.requires.few c.requires.first c.requires.count c.requires.sound lt is c.index-columns-number.is c.as_slice.ensures.value c.kept_column.ensures.column c.kept_column.ensures.kept c.kept_column.ensures.utf8)
          c.loop-number.invariant.1,
    )
