use Rattle.std.proofs.Common.{refl, subst, ◌≤◌, ◌^◌, length}
use Rattle.seg_writer.proofs.StoreLemmas.{many-values, long-value}
use Rattle.seg_writer.proofs.stored.write_values.Goals as goal

pub returns-then-values-ge-NUMBERS : goal.returns-then-values-ge-NUMBERS
returns-then-values-ge-NUMBERS c = (refl, many-values c.args.table.now c.args.values.now c.if-values-ge-NUMBERS.true)

pub returns-then-as_bytes-ge-NUMBERS : goal.returns-then-as_bytes-ge-NUMBERS
returns-then-as_bytes-ge-NUMBERS c =
    (refl, long-value c.args.table.now c.args.values.now c.loop-value.value-index c.value-item.result c.loop-value-test.true c.value-item.is (subst (λ w. 2 ^ 31 ≤ length w) c.as_bytes.ensures.same c.if-as_bytes-ge-NUMBERS.true))
