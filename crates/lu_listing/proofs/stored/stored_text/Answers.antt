use Rattle.std.proofs.Common.{◌∙◌}
use Rattle.lu_listing.proofs.PrintingLemmas.{prints-both, prints-same}
use Rattle.lu_listing.proofs.stored.stored_text.Goals as goal

pub returns : goal.returns
returns g c =
    let number = prints-both _ _ _ _ _ c.put.ensures c.number_text.ensures in
    let flag = prints-both _ _ _ _ _ c.put_byte.ensures (prints-same _ _ _ _ (c.as_bytes.ensures.value ∙ c.flag_digit.ensures) c.put-2.ensures) in
    let value = prints-both _ _ _ _ _ c.put_byte-2.ensures c.value_text.ensures in
    prints-both _ _ _ _ _ (prints-both _ _ _ _ _ (prints-both _ _ _ _ _ number flag) value) c.put_byte-3.ensures
