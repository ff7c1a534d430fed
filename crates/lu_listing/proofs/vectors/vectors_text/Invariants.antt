use Rattle.std.proofs.Common.{length}
use Rattle.std.specs.List.{flat_map}
use Rattle.lu_listing.specs.Printing.{page}
use Rattle.lu_listing.specs.Listing.{vector_text}
use Rattle.lu_listing.proofs.PrintingLemmas.{Lacks}
use Rattle.lu_listing.proofs.vectors.vectors_text.Given as goal

-- the vectors that were not passed are left
abbrev pub invariant-loop-vector : goal.invariant-loop-vector
invariant-loop-vector g l =
    Lacks (page l.fn.printer (g.K.Sink.taken l.fn.out) (g.K.Sink.faults l.fn.out)) (page l.printer (g.K.Sink.taken l.out) (g.K.Sink.faults l.out))
    (flat_map vector_text l.vectors) (flat_map vector_text l.fn.vectors)

abbrev pub decreases-loop-vector : goal.decreases-loop-vector
decreases-loop-vector g l = length l.vectors
