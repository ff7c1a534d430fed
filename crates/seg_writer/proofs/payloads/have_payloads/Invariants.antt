use Rattle.std.proofs.Common.{take, false}
use Rattle.seg_writer.specs.Entries.{AreBareUnless}
use Rattle.seg_writer.proofs.payloads.have_payloads.Given as goal

abbrev pub invariant-loop-here : goal.invariant-loop-here
invariant-loop-here l = AreBareUnless false (take l.here-index l.column)
