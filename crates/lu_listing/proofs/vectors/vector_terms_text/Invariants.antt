use Rattle.std.proofs.Common.{length}
use Rattle.std.specs.List.{flat_map}
use Rattle.lu_listing.specs.Printing.{page}
use Rattle.lu_listing.specs.Listing.{vector_term_line}
use Rattle.lu_listing.proofs.PrintingLemmas.{Lacks}
use Rattle.lu_listing.proofs.vectors.vector_terms_text.Given as goal

-- the terms that were not passed are left
abbrev pub invariant-loop-printer : goal.invariant-loop-printer
invariant-loop-printer g l =
    Lacks (page l.fn.printer (g.K.Sink.taken l.fn.out) (g.K.Sink.faults l.fn.out)) (page l.printer (g.K.Sink.taken l.out) (g.K.Sink.faults l.out))
    (flat_map vector_term_line l.terms.left) (flat_map vector_term_line l.fn.terms.left)

abbrev pub decreases-loop-printer : goal.decreases-loop-printer
decreases-loop-printer g l = length l.terms.left
