use Rattle.std.proofs.Common.{take, arith}
use Rattle.std.proofs.lemmas.List.{length-take}
use Rattle.lu_model.proofs.Each.{length_filter-le}
use Rattle.seg_writer.specs.VectorSteps.{has_field_vector}
use Rattle.seg_writer.proofs.vectors.vector_count.Goals as goal

pub overflow_add-count : goal.overflow_add-count
overflow_add-count c =
    let passed = take c.loop-field.field-index c.args.fields.now in
    let most = length_filter-le has_field_vector passed in
    let size = length-take c.loop-field.field-index c.args.fields.now in
    omega (arith, most, size)
