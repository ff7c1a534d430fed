use Rattle.std.proofs.Common.{◌≡◌, ◌+◌, drop}
use Rattle.seg_writer.specs.SortedUses.{has_text, lead_length}
use Rattle.seg_writer.proofs.inverted.run_len.Given as goal

abbrev pub invariant-loop-count : goal.invariant-loop-count
invariant-loop-count l = lead_length (has_text l.column l.head l.text) l.uses ≡ l.count + lead_length (has_text l.column l.head l.text) (drop l.count l.uses)
