use Rattle.std.proofs.Common.{◌≡◌, ◌-◌, length, drop}
use Rattle.std.specs.List.{flat_map}
use Rattle.lu_listing.specs.Printing.{page}
use Rattle.lu_listing.specs.Listing.{term_text}
use Rattle.lu_listing.proofs.PrintingLemmas.{Lacks}
use Rattle.lu_listing.proofs.terms.terms_text.Given as goal

-- the terms that were not passed are left
abbrev pub invariant-loop-info : goal.invariant-loop-info
invariant-loop-info g l =
    Lacks (page l.fn.printer (g.K.Sink.taken l.fn.out) (g.K.Sink.faults l.fn.out)) (page l.printer (g.K.Sink.taken l.out) (g.K.Sink.faults l.out))
    (flat_map term_text (drop l.cursor.passed l.reader.index.terms)) (flat_map term_text l.fn.reader.index.terms)
    × (l.cursor.dictionary ≡ l.reader.dictionary)

abbrev pub decreases-loop-info : goal.decreases-loop-info
decreases-loop-info g l = length l.reader.dictionary.terms - l.cursor.passed
