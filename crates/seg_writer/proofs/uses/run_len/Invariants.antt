use Rattle.std.proofs.Common.{◌≡◌, ◌+◌, drop}
use Rattle.seg_writer.specs.Entries.{run_length}
use Rattle.seg_writer.proofs.uses.run_len.Given as goal

abbrev pub invariant-loop-count : goal.invariant-loop-count
invariant-loop-count l = run_length l.entry l.uses ≡ l.count + run_length l.entry (drop l.count l.uses)
