-- The number that a segment's name spells.
use Rattle.std.proofs.Common.{◌≡◌, ℕ, ◌≤◌, true, leb, List, drop, Option, Some, None, refl, ap, subst, ◌∙◌, inl, inr, bytes_eq}
use Rattle.std.specs.Cmp.Lexicographic.{bytes_decides}
use Rattle.std.specs.Str.Parse.{digits_value}
use Rattle.std.proofs.lemmas.Bool.{cases_Bool, le-leb, leb-true}
use Rattle.lu_prims.specs.Base36.{base36}
use Rattle.lu_prims.proofs.Base36Lemmas.{spelled_value}
use Rattle.lu_types.specs.Names.{greatest_segment, segment_name, Names, IsSegmentName}
use Rattle.segment_infos.specs.Numbers.{if_spelled, segment_number_in}

-- the name of a segment has its number
pub segment_number_in-segment_name : (n : ℕ) → n ≤ greatest_segment → segment_number_in (segment_name n) ≡ Some n
segment_number_in-segment_name n most =
    let is : digits_value 36 (base36 n) ≡ n = spelled_value n in
    let within : leb n greatest_segment ≡ true = le-leb n greatest_segment most in
    let same : bytes_eq (segment_name n) (segment_name n) ≡ true = (bytes_decides (segment_name n) (segment_name n)).1 refl in
    ap (if_spelled (segment_name n)) is ∙ rw (within, same) refl

pub segment_number_in-Names : (text : List ℕ) (n : ℕ) → Names text n → segment_number_in text ≡ Some n
segment_number_in-Names text n named = ap segment_number_in named.1 ∙ segment_number_in-segment_name n named.0

-- a number that a text has is that of its name
pub Names-segment_number_in : (text : List ℕ) (n : ℕ) → segment_number_in text ≡ Some n → Names text n
Names-segment_number_in text n e = go (digits_value 36 (drop 1 text)) e
  where
    go : (m : ℕ) → if_spelled text m ≡ Some n → Names text n
    go m h = elim (cases_Bool (leb m greatest_segment)) [
      | inr over ↦ absurd (let bad : None ≡ Some n = rw over at h in cc)
      | inl within ↦ elim (cases_Bool (bytes_eq text (segment_name m))) [
        | inr other ↦ absurd (let bad : None ≡ Some n = rw (within, other) at h in cc)
        | inl same ↦
            let is : Some m ≡ Some n = rw (within, same) at h in
            let number : m ≡ n = cc in
            subst (Names text) number (leb-true m greatest_segment within, (bytes_decides text (segment_name m)).0 same)
      ]
    ]

-- a text that is no segment name has none
pub segment_number_in-none : (text : List ℕ) → (IsSegmentName text → ⊥) → segment_number_in text ≡ None
segment_number_in-none text other = go (segment_number_in text) refl
  where
    go : (o : Option ℕ) → segment_number_in text ≡ o → o ≡ None
    go None e = refl
    go (Some n) e = absurd (other (n, Names-segment_number_in text n e))
