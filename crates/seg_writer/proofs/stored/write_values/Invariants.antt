use Rattle.std.proofs.Common.{◌≡◌, length, take}
use Rattle.lu_model.specs.Contents.{stored_in}
use Rattle.stored_fields.specs.Writing.{with_document}
use Rattle.seg_writer.proofs.StoreLemmas.{open_of}
use Rattle.seg_writer.proofs.stored.write_values.Given as goal

abbrev pub invariant-loop-value : goal.invariant-loop-value
invariant-loop-value l = l.writer ≡ with_document l.fn.writer.finished (open_of (length l.values) (stored_in l.table (take l.value-index l.values)))
