use Rattle.std.proofs.Common.{◌≡◌, take}
use Rattle.seg_writer.specs.VectorSteps.{vectors_of_fields, with_whole_vectors}
use Rattle.seg_writer.proofs.vectors.write_document.Given as goal

abbrev pub invariant-loop-field : goal.invariant-loop-field
invariant-loop-field l = l.writer ≡ with_whole_vectors (vectors_of_fields l.table (take l.field-index l.fields)) l.initial.writer
