use Rattle.std.proofs.Common.{drop}
use Rattle.lu_listing.specs.Printing.{page}
use Rattle.lu_listing.specs.Lines.{numbered}
use Rattle.lu_listing.specs.Listing.{norms_text}
use Rattle.lu_listing.proofs.PrintingLemmas.{Lacks}
use Rattle.lu_listing.proofs.listing.all_norms_text.Given as goal

-- the norms of the fields from the number on are left
abbrev pub invariant-loop-field : goal.invariant-loop-field
invariant-loop-field g l =
    Lacks (page l.fn.printer (g.K.Sink.taken l.fn.out) (g.K.Sink.faults l.fn.out)) (page l.printer (g.K.Sink.taken l.out) (g.K.Sink.faults l.out))
    (numbered norms_text l.field (drop l.field l.reader.index.norms)) (numbered norms_text 0 l.fn.reader.index.norms)
