use Rattle.std.proofs.Common.{length}
use Rattle.lu_listing.specs.Printing.{page}
use Rattle.lu_listing.specs.Lines.{stored_lines}
use Rattle.lu_listing.proofs.PrintingLemmas.{Lacks}
use Rattle.lu_listing.proofs.stored.stored_lines.Given as goal

-- the lines of the values left are left
abbrev pub invariant-loop-stored : goal.invariant-loop-stored
invariant-loop-stored g l =
    Lacks (page l.fn.printer (g.K.Sink.taken l.fn.out) (g.K.Sink.faults l.fn.out)) (page l.printer (g.K.Sink.taken l.out) (g.K.Sink.faults l.out)) (stored_lines l.doc) (stored_lines l.fn.doc)

abbrev pub decreases-loop-stored : goal.decreases-loop-stored
decreases-loop-stored g l = length l.doc
