use Rattle.lu_listing.proofs.PrintingLemmas.{prints-both}
use Rattle.lu_listing.proofs.stored.field_text.Goals as goal

pub returns : goal.returns
returns g c =
    let number = prints-both _ _ _ _ _ c.put.ensures c.number_text.ensures in
    let bits = prints-both _ _ _ _ _ c.put_byte.ensures c.byte_text.ensures in
    let name = prints-both _ _ _ _ _ c.put_byte-2.ensures c.quoted_text.ensures in
    prints-both _ _ _ _ _ (prints-both _ _ _ _ _ (prints-both _ _ _ _ _ number bits) name) c.put_byte-3.ensures
