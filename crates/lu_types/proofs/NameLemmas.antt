-- Texts that are no segment names.
use Rattle.std.proofs.Common.{◌≡◌, ◌≢◌, ℕ, ◌<◌, List, ◌∷◌, arith}
use Rattle.lu_prims.specs.Base36.{base36}
use Rattle.lu_prims.proofs.Base36Lemmas.{base36_same}
use Rattle.lu_types.specs.Names.{IsSegmentName, greatest_segment}

-- a text that does not begin with `_`
pub without_underscore : (text : List ℕ) → ((rest : List ℕ) → text ≢ 95 ∷ rest) → IsSegmentName text → ⊥
without_underscore text begins_other name = begins_other (base36 name.0) name.1.1

-- a text with a number that is too great
pub past_greatest : (text digits : List ℕ) (number : ℕ) → text ≡ 95 ∷ digits → digits ≡ base36 number → greatest_segment < number → IsSegmentName text → ⊥
past_greatest text digits number split spelled great name =
    let whole : 95 ∷ base36 number ≡ 95 ∷ base36 name.0 = cc (name.1.1) in
    let same : base36 number ≡ base36 name.0 = cc in
    let equal : number ≡ name.0 = base36_same number name.0 same in
    omega arith
