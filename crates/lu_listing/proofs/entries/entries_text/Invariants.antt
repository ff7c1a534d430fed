use Rattle.std.proofs.Common.{length, All}
use Rattle.std.specs.List.{flat_map}
use Rattle.seg_reader.specs.Postings.{entries_left}
use Rattle.lu_listing.specs.InnerEntries.{IsOmittedBy}
use Rattle.lu_listing.specs.Printing.{page}
use Rattle.lu_listing.specs.Listing.{entry_line}
use Rattle.lu_listing.proofs.PrintingLemmas.{Lacks}
use Rattle.lu_listing.proofs.entries.entries_text.Given as goal

-- the lines of the entries left are left
abbrev pub invariant-loop-document : goal.invariant-loop-document
invariant-loop-document g l =
    (All (λ e. IsOmittedBy l.form.omits e.occurrences) (entries_left l.entries))
    × Lacks (page l.fn.printer (g.K.Sink.taken l.fn.out) (g.K.Sink.faults l.fn.out)) (page l.printer (g.K.Sink.taken l.out) (g.K.Sink.faults l.out)) (flat_map (entry_line l.form.word.now) (entries_left l.entries)) (flat_map (entry_line l.form.word.now) (entries_left l.fn.entries))

abbrev pub decreases-loop-document : goal.decreases-loop-document
decreases-loop-document g l = length (entries_left l.entries)
