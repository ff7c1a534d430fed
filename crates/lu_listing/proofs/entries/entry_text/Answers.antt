use Rattle.std.proofs.Common.{ap, ◌∙◌}
use Rattle.std.specs.Fmt.{decimal}
use Rattle.lu_listing.proofs.PrintingLemmas.{prints-both, prints-same}
use Rattle.lu_listing.proofs.entries.entry_text.Goals as goal

pub returns-clause-printed : goal.returns-clause-printed
returns-clause-printed g c = λ e on.
    let word = prints-same _ _ _ _ c.as_bytes.ensures.value c.put.ensures in
    let document = prints-same _ _ _ _ (ap decimal (c.from.ensures ∙ on.document_is)) c.number_text.ensures in
    let head = prints-both _ _ _ _ _ word (prints-both _ _ _ _ _ c.put_byte.ensures document) in
    prints-both _ _ _ _ _ (prints-both _ _ _ _ _ head (c.kept_text.ensures.printed e on)) c.put_byte-2.ensures
