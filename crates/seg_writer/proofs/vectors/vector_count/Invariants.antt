use Rattle.std.proofs.Common.{◌≡◌, length, take}
use Rattle.std.specs.Prelude.{filter}
use Rattle.seg_writer.specs.VectorSteps.{has_field_vector}
use Rattle.seg_writer.proofs.vectors.vector_count.Given as goal

abbrev pub invariant-loop-field : goal.invariant-loop-field
invariant-loop-field l = l.count ≡ length (filter has_field_vector (take l.field-index l.fields))
