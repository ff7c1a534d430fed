use Rattle.std.proofs.Common.{◌-◌}
use Rattle.std.specs.List.{flat_map, range_with_len}
use Rattle.lu_listing.specs.Printing.{page}
use Rattle.lu_listing.specs.Listing.{document_text, documents_text}
use Rattle.lu_listing.proofs.PrintingLemmas.{Lacks}
use Rattle.lu_listing.proofs.documents.documents_text.Given as goal

-- the documents from the number on are left
abbrev pub invariant-loop-number : goal.invariant-loop-number
invariant-loop-number g l =
    Lacks (page l.fn.printer (g.K.Sink.taken l.fn.out) (g.K.Sink.faults l.fn.out)) (page l.printer (g.K.Sink.taken l.out) (g.K.Sink.faults l.out))
    (flat_map (document_text l.reader.index) (range_with_len l.number (l.reader.index.size - l.number))) (documents_text l.fn.reader.index)
