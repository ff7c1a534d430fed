use Rattle.std.proofs.Common.{◌≡◌, ◌++◌}
use Rattle.seg_writer.specs.NormColumns.{missing_norms}
use Rattle.seg_writer.proofs.norms.add_missing.Given as goal

abbrev pub invariant-loop : goal.invariant-loop
invariant-loop l = l.writer ≡ l.initial.writer ++ missing_norms l.counter
