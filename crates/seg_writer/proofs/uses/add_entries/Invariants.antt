use Rattle.std.proofs.Common.{length}
use Rattle.seg_writer.specs.Entries.{IsPartly}
use Rattle.seg_writer.proofs.uses.add_entries.Given as goal

abbrev pub invariant-loop-rest : goal.invariant-loop-rest
invariant-loop-rest l = IsPartly l.column l.term.text.now l.omit_tf l.rest l.initial.writer l.writer

abbrev pub decreases-loop-rest : goal.decreases-loop-rest
decreases-loop-rest l = length l.rest
