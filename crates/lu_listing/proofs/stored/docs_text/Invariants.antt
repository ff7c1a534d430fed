use Rattle.std.proofs.Common.{drop}
use Rattle.lu_listing.specs.Printing.{page}
use Rattle.lu_listing.specs.Lines.{doc_lines}
use Rattle.lu_listing.proofs.PrintingLemmas.{Lacks}
use Rattle.lu_listing.proofs.stored.docs_text.Given as goal

-- the lines of the documents left are left
abbrev pub invariant-loop-number : goal.invariant-loop-number
invariant-loop-number g l =
    Lacks (page l.fn.printer (g.K.Sink.taken l.fn.out) (g.K.Sink.faults l.fn.out)) (page l.printer (g.K.Sink.taken l.out) (g.K.Sink.faults l.out)) (doc_lines l.number (drop l.number l.view)) (doc_lines 0 l.fn.view)
