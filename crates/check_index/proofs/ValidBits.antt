-- The bits of the field with a number.
use Rattle.std.proofs.Common.{◌≡◌, ℕ, zero, suc, List, [], ◌∷◌, refl}
use Rattle.lu_types.specs.Tables.{TableField, bits_at}
use Rattle.lu_model.specs.Contents.{field_at}

-- they are those of the field that the index has at the number, and 0 where it has none
pub bits-same : (n : ℕ) (fields : List TableField) → bits_at fields n ≡ (field_at n fields).bits
bits-same n [] = refl
bits-same zero (field ∷ fields) = refl
bits-same (suc n) (field ∷ fields) = bits-same n fields
