use Rattle.std.proofs.Common.{◌≡◌, ◌+◌, length}
use Rattle.std.specs.Prelude.{filter}
use Rattle.lu_model.proofs.Words.{Each}
use Rattle.seg_merger.specs.Renumbered.{is_vector_kept}
use Rattle.seg_merger.specs.VectorSteps.{IsOfFields}
use Rattle.seg_merger.proofs.vectors.kept_count.Given as goal

abbrev pub invariant-loop-vector : goal.invariant-loop-vector
invariant-loop-vector l =
    (l.count + length (filter (is_vector_kept l.fields.table.now l.fields.numbers.now) l.vectors) ≡ length (filter (is_vector_kept l.fields.table.now l.fields.numbers.now) l.fn.vectors))
    × Each (IsOfFields (length l.fields.numbers.now)) l.vectors

abbrev pub decreases-loop-vector : goal.decreases-loop-vector
decreases-loop-vector l = length l.vectors
