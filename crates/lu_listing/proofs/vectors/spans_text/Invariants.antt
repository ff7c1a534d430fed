use Rattle.std.proofs.Common.{◌≡◌, length}
use Rattle.std.specs.List.{flat_map}
use Rattle.lu_listing.specs.Printing.{page}
use Rattle.lu_listing.specs.Listing.{span_text}
use Rattle.lu_listing.proofs.PrintingLemmas.{Lacks}
use Rattle.lu_listing.proofs.vectors.spans_text.Given as goal

-- the spans that were not taken are left, and nothing else was taken
abbrev pub invariant-loop-span : goal.invariant-loop-span
invariant-loop-span g l =
    Lacks (page l.fn.printer (g.K.Sink.taken l.fn.out) (g.K.Sink.faults l.fn.out)) (page l.printer (g.K.Sink.taken l.out) (g.K.Sink.faults l.out))
    (flat_map span_text l.terms.spans) (flat_map span_text l.fn.terms.spans)
    × (l.terms ≡ record l.fn.terms { spans = l.terms.spans })

abbrev pub decreases-loop-span : goal.decreases-loop-span
decreases-loop-span g l = length l.terms.spans
