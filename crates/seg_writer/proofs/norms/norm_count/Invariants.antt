use Rattle.std.proofs.Common.{◌≡◌, ◌≤◌, take}
use Rattle.check_index.specs.Norms.{count_with_norms}
use Rattle.seg_writer.proofs.norms.norm_count.Given as goal

abbrev pub invariant-loop-field : goal.invariant-loop-field
invariant-loop-field l = (l.count ≡ count_with_norms (take l.field-index l.fields)) × (l.count ≤ l.field-index)
