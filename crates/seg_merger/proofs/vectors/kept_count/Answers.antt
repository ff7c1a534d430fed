use Rattle.std.proofs.Common.{arith}
use Rattle.lu_model.proofs.Each.{length_filter-le}
use Rattle.seg_merger.specs.Renumbered.{is_vector_kept}
use Rattle.seg_merger.proofs.vectors.kept_count.Goals as goal

pub overflow_add-count : goal.overflow_add-count
overflow_add-count c =
    let most = length_filter-le (is_vector_kept c.args.fields.now.table.now c.args.fields.now.numbers.now) c.args.vectors in
    let so_far = c.loop-vector.invariant.0 in
    let few = c.requires.few in
    omega (arith, most, so_far, few)
