use Rattle.hex.specs.Hex.{lower_digits, encode_lower}
use Rattle.lu_listing.proofs.PieceLemmas.{encode_with-split}
use Rattle.lu_listing.proofs.PrintingLemmas.{lacks-less}
use Rattle.lu_listing.proofs.pieces.hex_text.Goals as goal

pub loop-rest-preserved : goal.loop-rest-preserved
loop-rest-preserved g c =
    lacks-less _ _ _ (encode_lower c.split_at.result.0.now) (encode_lower c.split_at.result.1.now) (encode_lower c.loop-rest.rest.now) _ c.loop-rest.invariant c.short_hex_text.ensures
    (encode_with-split lower_digits c.loop-rest.rest.now c.split_at.result.0.now c.split_at.result.1.now 32 c.split_at.ensures.front c.split_at.ensures.back)
