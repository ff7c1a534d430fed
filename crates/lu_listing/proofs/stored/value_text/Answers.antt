use Rattle.lu_listing.proofs.PrintingLemmas.{prints-both}
use Rattle.lu_listing.proofs.stored.value_text.Goals as goal

pub returns-in-Binary : goal.returns-in-Binary
returns-in-Binary g c = rw c.in-Binary.is (prints-both _ _ _ _ _ c.put-in-Binary.ensures c.hex_text.ensures)
