use Rattle.std.proofs.Common.{ap, ◌∙◌, List, rules}
use Rattle.std.specs.Fmt.{decimal}
use Rattle.std.specs.List.{flat_map}
use Rattle.lu_types.specs.Occurrences.{Occurrence}
use Rattle.lu_listing.specs.Listing.{occurrence_text}
use Rattle.lu_listing.proofs.EntryLemmas.{kept-given, kept-omitted}
use Rattle.lu_listing.proofs.PrintingLemmas.{prints-both, prints-same}
use Rattle.lu_listing.proofs.entries.kept_text.Goals as goal
use Rattle.lu_listing.proofs.entries.kept_text.Goals.{then-not-omits, else-not-omits}

pub returns-clause-printed : goal.returns-clause-printed
returns-clause-printed g c = λ e on.
    let left = ap (λ (os : List Occurrence). flat_map occurrence_text os) on.left in
    elim c.if-not-omits.branch [
      | then-not-omits w ↦
          let occurrences = prints-same _ _ _ _ left (rw (w.printer-is, w.out-is) at c.occurrences_text.ensures.printed) in
          let count = prints-same _ _ _ _ (ap decimal (w.from.ensures ∙ w.freq.ensures e on.here)) w.number_text.ensures in
          prints-same _ _ _ _ (kept-given c.args.omits e.occurrences on.omitted_by (search rules)) (prints-both _ _ _ _ _ w.put_byte.ensures (prints-both _ _ _ _ _ count occurrences))
      | else-not-omits w ↦
          prints-same _ _ _ _ (left ∙ kept-omitted c.args.omits e.occurrences on.omitted_by (search rules)) (rw (w.printer-is, w.out-is) at c.occurrences_text.ensures.printed)
    ]
