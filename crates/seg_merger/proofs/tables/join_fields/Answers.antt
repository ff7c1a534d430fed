use Rattle.std.proofs.Common.{◌+◌, ◌<◌, ◌∙◌, ap, sym, drop, length, arith}
use Rattle.lu_types.specs.Fields.{table_field}
use Rattle.lu_types.specs.Joins.{join}
use Rattle.seg_merger.proofs.JoinedLemmas.{join-next}
use Rattle.seg_merger.proofs.tables.join_fields.Goals as goal

pub loop-number-preserved : goal.loop-number-preserved
loop-number-preserved c =
    let fields = c.args.fields.now in
    let i = c.loop-number.number in
    let test = c.loop-number-test.true in
    let many = c.count-number-end.ensures.count in
    let lt : i < length fields = omega (arith, test, many) in
    c.loop-number.invariant ∙ join-next c.loop-number.table fields i (table_field c.in-Some.field) lt c.in-Some.ensures ∙ ap (λ t. join t (drop (i + 1) fields)) (sym c.in-Ok.ensures.joined)
