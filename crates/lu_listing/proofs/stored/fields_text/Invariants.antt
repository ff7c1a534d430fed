use Rattle.std.proofs.Common.{drop}
use Rattle.lu_listing.specs.Printing.{page}
use Rattle.lu_listing.specs.Lines.{field_lines}
use Rattle.lu_listing.proofs.PrintingLemmas.{Lacks}
use Rattle.lu_listing.proofs.stored.fields_text.Given as goal

-- the lines of the fields left are left
abbrev pub invariant-loop-number : goal.invariant-loop-number
invariant-loop-number g l =
    Lacks (page l.fn.printer (g.K.Sink.taken l.fn.out) (g.K.Sink.faults l.fn.out)) (page l.printer (g.K.Sink.taken l.out) (g.K.Sink.faults l.out)) (field_lines l.number (drop l.number l.table)) (field_lines 0 l.fn.table)
