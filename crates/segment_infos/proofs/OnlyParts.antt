-- The parts of a good segment are those of what it says.
use Rattle.std.proofs.Common.{◌≡◌, ◌≢◌, ℕ, ◌≤◌, ℤ, pos, negsuc, Bool, true, false, not, eqb, ltb, cond, List, [], ◌∷◌, ◌++◌, length, flat_map, get_or, All, None, refl, sym, ap, subst, ◌∙◌, arith, inl, inr, FitsSigned, w32, w64}
use Rattle.std.specs.Prelude.{◌||◌, ◌&&◌}
use Rattle.std.specs.List.{list_any}
use Rattle.std.proofs.lemmas.Bool.{cases_Bool, eqb-true, eqb-false, ltb-false}
use Rattle.std.proofs.lemmas.List.{append-nil}
use Rattle.lu_grammar.specs.Parts.{byte, int32, int64, text, spelling}
use Rattle.lu_grammar.specs.Records.{whole, Spells, first_broken}
use Rattle.lu_types.specs.RuleNumbers as rules
use Rattle.segment_infos.specs.declared.infos.MapPair.{MapPair}
use Rattle.segment_infos.specs.declared.record.TheConstants.{PACKED, NOT_PACKED}
use Rattle.segment_infos.specs.declared.record.FrontPart.{FrontPart}
use Rattle.segment_infos.specs.declared.record.NormPart.{NormPart}
use Rattle.segment_infos.specs.declared.record.FlagPart.{FlagPart}
use Rattle.segment_infos.specs.declared.record.MapPart.{MapPart}
use Rattle.segment_infos.specs.Numbers.{is_negative, is_no_generation, count_or_zero, given}
use Rattle.segment_infos.specs.Values.{IsPair, IsMap, IsNormGen, AreNormGens, AreDeleted}
use Rattle.segment_infos.specs.Records.{many, gen_shape, norm_shape, flag_shape, pair_shape, map_shape}
use Rattle.segment_infos.specs.Conditions.{rule, is_no_flag, is_no_deletion, norm_conditions, flag_conditions}
use Rattle.segment_infos.specs.Format.{norm_gens_of}
use Rattle.segment_infos.specs.Spelling.{pair_bytes, map_bytes, gens_bytes}
use Rattle.segment_infos.proofs.SpelledPieces.{All-cons, followed-spelled, many-are}
use Rattle.segment_infos.proofs.GoodLines.{not_first}

-- ---- a Map

pair-is : (p : MapPair) (a : List ℕ) → Spells pair_shape p a → IsPair p × (a ≡ pair_bytes p)
pair-is p a (key, back, keyed, is, (value, end, valued, more, (made, none))) =
    subst (λ (q : MapPair). IsPair q × (a ≡ pair_bytes q)) made
    ((keyed, valued), is ∙ ap (λ (t : List ℕ). spelling text key ++ t) (more ∙ ap (λ (t : List ℕ). spelling text value ++ t) none ∙ append-nil (spelling text value)))

-- what its parts are, and those of what they make
pub record IsMapPart (m : MapPart) (a : List ℕ) : Type 0 where
  pub is : IsMap m.pairs
  pub spelled : a ≡ map_bytes m.pairs

pub map-is : (m : MapPart) (a : List ℕ) → Spells map_shape m a → is_negative m.count ≡ false → IsMapPart m a
map-is m a (count, back, fits, is, spells) good =
    let next = λ (pairs : List MapPair). whole (let made : MapPart = record { count = count; pairs = pairs } in made) in
    let then = followed-spelled (many pair_shape (count_or_zero count)) next m back spells in
    let pairs = many-are pair_shape IsPair pair_bytes pair-is (count_or_zero count) then.it then.bytes then.first in
    let made : record { count = count; pairs = then.it } ≡ m = then.second.0 in
    let bytes : a ≡ spelling int32 count ++ flat_map pair_bytes then.it =
    is ∙ ap (λ (t : List ℕ). spelling int32 count ++ t) (then.split ∙ ap (λ (t : List ℕ). then.bytes ++ t) then.second.1 ∙ append-nil then.bytes ∙ pairs.spelled) in
    subst (λ (n : MapPart). is_negative n.count ≡ false → IsMapPart n a) made (go count fits then.it pairs.each pairs.count bytes) good
  where
    go : (count : ℤ) → FitsSigned w32 count → (pairs : List MapPair) → All IsPair pairs → length pairs ≡ count_or_zero count → a ≡ spelling int32 count ++ flat_map pair_bytes pairs → is_negative count ≡ false
        → IsMapPart (record { count = count; pairs = pairs }) a
    go (pos n) fits pairs each number bytes good = record { is = (omega (arith, number, fits), each); spelled = bytes ∙ ap (λ (k : ℕ). spelling int32 (pos k) ++ flat_map pair_bytes pairs) (sym number) }
    go (negsuc n) fits pairs each number bytes good = absurd cc

-- ---- norms

pub none_number : (n : ℕ) → not (eqb n 0) ≡ false → n ≡ 0
none_number n h = elim (cases_Bool (eqb n 0)) [
  | inl same ↦ eqb-true n 0 same
  | inr other ↦ absurd (let bad : true ≡ false = rw other at h in cc)
]

-- where none passes, each does not
pub all_fail : {X : Type 0} (p : X → Bool) (xs : List X) → list_any p xs ≡ false → All (λ x. p x ≡ false) xs
all_fail p [] h = λ k d lt. absurd (omega arith)
all_fail {X} p (x ∷ xs) h =
    elim (cases_Bool (p x)) [
      | inl passes ↦ absurd (let bad : true ≡ false = rw passes at h in cc)
      | inr fails ↦ let others : list_any p xs ≡ false = rw fails at h in All-cons (λ y. p y ≡ false) x xs fails (all_fail p xs others)
    ]

empty_list : {X : Type 0} (xs : List X) → length xs ≡ 0 → xs ≡ []
empty_list [] e = refl
empty_list (x ∷ xs) e = absurd (omega arith)

gen-is : (g : ℤ) (a : List ℕ) → Spells gen_shape g a → FitsSigned w64 g × (a ≡ spelling int64 g)
gen-is g a (z, back, fits, is, (made, none)) = (subst (FitsSigned w64) made fits, is ∙ ap (λ (t : List ℕ). spelling int64 z ++ t) none ∙ append-nil (spelling int64 z) ∙ ap (spelling int64) made)

-- a number that fits, and that is one of a generation or -1
gen-ok : (g : ℤ) → FitsSigned w64 g → is_no_generation g ≡ false → IsNormGen g
gen-ok (pos n) fits h = let some : n ≡ 0 → ⊥ = eqb-false n 0 h in (omega arith, omega (arith, fits))
gen-ok (negsuc n) fits h = none_number n h

pub record IsNormPart (n : NormPart) (a : List ℕ) : Type 0 where
  pub is : AreNormGens (norm_gens_of n)
  pub spelled : a ≡ spelling byte 1 ++ gens_bytes (norm_gens_of n)

norm-made : (single : ℕ) (count : ℤ) (gens : List ℤ) (a : List ℕ) → FitsSigned w32 count → All (FitsSigned w64) gens → length gens ≡ count_or_zero count → a ≡ spelling byte single ++ (spelling int32 count ++ flat_map (spelling int64) gens)
    → first_broken (norm_conditions (record { single = single; count = count; gens = gens })) ≡ None → IsNormPart (record { single = single; count = count; gens = gens }) a
norm-made single (pos k) gens a fits each number bytes good =
    let one = not_first rules.old_norms (not (eqb single 1)) (rule rules.num_field false ∷ rule rules.separate_norms (list_any is_no_generation gens) ∷ []) good in
    let is_one : single ≡ 1 = same_one one.0 in
    let two = not_first rules.num_field false (rule rules.separate_norms (list_any is_no_generation gens) ∷ []) one.1 in
    let three = not_first rules.separate_norms (list_any is_no_generation gens) [] two.1 in
    record {
      is = (omega (arith, number, fits), λ i d lt. gen-ok (get_or gens i d) (each i d lt) (all_fail is_no_generation gens three.0 i d lt));
      spelled = bytes ∙ ap (λ (s : ℕ). spelling byte s ++ (spelling int32 (pos k) ++ flat_map (spelling int64) gens)) is_one ∙ ap (λ (m : ℕ). spelling byte 1 ++ (spelling int32 (pos m) ++ flat_map (spelling int64) gens)) (sym number);
    }
  where
    same_one : not (eqb single 1) ≡ false → single ≡ 1
    same_one h = elim (cases_Bool (eqb single 1)) [
      | inl same ↦ eqb-true single 1 same
      | inr other ↦ absurd (let bad : true ≡ false = rw other at h in cc)
    ]
norm-made single (negsuc k) gens a fits each number bytes good =
    let one = not_first rules.old_norms (not (eqb single 1)) (rule rules.num_field (not (eqb k 0)) ∷ rule rules.separate_norms (list_any is_no_generation gens) ∷ []) good in
    let is_one : single ≡ 1 = same_one one.0 in
    let two = not_first rules.num_field (not (eqb k 0)) (rule rules.separate_norms (list_any is_no_generation gens) ∷ []) one.1 in
    let is_none : k ≡ 0 = none_number k two.0 in
    let no_gens : gens ≡ [] = empty_list gens number in
    record {
      is = tt;
      spelled = bytes ∙ ap (λ (s : ℕ). spelling byte s ++ (spelling int32 (negsuc k) ++ flat_map (spelling int64) gens)) is_one
          ∙ ap (λ (m : ℕ). spelling byte 1 ++ (spelling int32 (negsuc m) ++ flat_map (spelling int64) gens)) is_none
          ∙ ap (λ (gs : List ℤ). spelling byte 1 ++ (spelling int32 (negsuc 0) ++ flat_map (spelling int64) gs)) no_gens
          ∙ ap (λ (t : List ℕ). spelling byte 1 ++ t) (append-nil (spelling int32 (negsuc 0)));
    }
  where
    same_one : not (eqb single 1) ≡ false → single ≡ 1
    same_one h = elim (cases_Bool (eqb single 1)) [
      | inl same ↦ eqb-true single 1 same
      | inr other ↦ absurd (let bad : true ≡ false = rw other at h in cc)
    ]

pub norm-is : (n : NormPart) (a : List ℕ) → Spells norm_shape n a → first_broken (norm_conditions n) ≡ None → IsNormPart n a
norm-is n a (single, back, one_byte, is, (count, end, fits, more, spells)) good =
    let next = λ (gens : List ℤ). whole (let made : NormPart = record { single = single; count = count; gens = gens } in made) in
    let then = followed-spelled (many gen_shape (count_or_zero count)) next n end spells in
    let gens = many-are gen_shape (FitsSigned w64) (spelling int64) gen-is (count_or_zero count) then.it then.bytes then.first in
    let made : record { single = single; count = count; gens = then.it } ≡ n = then.second.0 in
    let bytes : a ≡ spelling byte single ++ (spelling int32 count ++ flat_map (spelling int64) then.it) =
    is ∙ ap (λ (t : List ℕ). spelling byte single ++ t) (more ∙ ap (λ (t : List ℕ). spelling int32 count ++ t) (then.split ∙ ap (λ (t : List ℕ). then.bytes ++ t) then.second.1 ∙ append-nil then.bytes ∙ gens.spelled)) in
    subst (λ (m : NormPart). first_broken (norm_conditions m) ≡ None → IsNormPart m a) made (norm-made single count then.it a fits gens.each gens.count bytes) good

-- ---- flags

pub record IsFlagPart (front : FrontPart) (f : FlagPart) (a : List ℕ) : Type 0 where
  pub deleted : AreDeleted (given front.del_gen) (count_or_zero front.size) (count_or_zero f.deleted)
  pub spelled : a ≡ spelling byte (cond (eqb f.compound PACKED) PACKED NOT_PACKED) ++ (spelling int32 (pos (count_or_zero f.deleted)) ++ spelling byte (cond (eqb f.prox 1) 1 0))

same_flag : (flag : ℕ) → is_no_flag flag ≡ false → cond (eqb flag PACKED) PACKED NOT_PACKED ≡ flag
same_flag flag h = elim (cases_Bool (eqb flag PACKED)) [
  | inl packed ↦ rw packed (sym (eqb-true flag PACKED packed))
  | inr other ↦ elim (cases_Bool (eqb flag NOT_PACKED)) [
    | inl loose ↦ rw other (sym (eqb-true flag NOT_PACKED loose))
    | inr neither ↦ absurd (let bad : true ≡ false = rw (other, neither) at h in cc)
  ]
]

same_bit : (bit : ℕ) → ltb 1 bit ≡ false → cond (eqb bit 1) 1 0 ≡ bit
same_bit bit h =
    let most : bit ≤ 1 = ltb-false 1 bit h in
    elim (cases_Bool (eqb bit 1)) [
      | inl one ↦ rw one (sym (eqb-true bit 1 one))
      | inr other ↦ let not_one : bit ≢ 1 = eqb-false bit 1 other in rw other (omega arith)
    ]

pub or_false : (a b : Bool) → (a || b) ≡ false → (a ≡ false) × (b ≡ false)
or_false true b h = absurd (let bad : true ≡ false = h in cc)
or_false false b h = (refl, h)

pub not_negative : (z : ℤ) → is_negative z ≡ false → z ≡ pos (count_or_zero z)
not_negative (pos n) h = refl
not_negative (negsuc n) h = absurd (let bad : true ≡ false = h in cc)

deleted-are : (front : FrontPart) (deleted : ℤ) → is_no_deletion front deleted ≡ false → AreDeleted (given front.del_gen) (count_or_zero front.size) (count_or_zero deleted) × (deleted ≡ pos (count_or_zero deleted))
deleted-are front deleted h =
    let one = or_false (is_negative deleted) (ltb (count_or_zero front.size) (count_or_zero deleted) || (is_negative front.del_gen && not (eqb (count_or_zero deleted) 0))) h in
    let two = or_false (ltb (count_or_zero front.size) (count_or_zero deleted)) (is_negative front.del_gen && not (eqb (count_or_zero deleted) 0)) one.1 in
    (go front.del_gen two.1, not_negative deleted one.0)
  where
    go : (gen : ℤ) → (is_negative gen && not (eqb (count_or_zero deleted) 0)) ≡ false → AreDeleted (given gen) (count_or_zero front.size) (count_or_zero deleted)
    go (pos n) e = let two = or_false (is_negative deleted) (ltb (count_or_zero front.size) (count_or_zero deleted) || (is_negative front.del_gen && not (eqb (count_or_zero deleted) 0))) h in
        ltb-false (count_or_zero front.size) (count_or_zero deleted) (or_false (ltb (count_or_zero front.size) (count_or_zero deleted)) (is_negative front.del_gen && not (eqb (count_or_zero deleted) 0)) two.1).0
    go (negsuc n) e = none_number (count_or_zero deleted) e

pub flag-is : (front : FrontPart) (f : FlagPart) (a : List ℕ) → Spells flag_shape f a → first_broken (flag_conditions front f) ≡ None → IsFlagPart front f a
flag-is front f a (compound, b, fits, is, (deleted, c, fits_2, is_2, (prox, d, fits_3, is_3, (made, none)))) good =
    subst (λ (g : FlagPart). first_broken (flag_conditions front g) ≡ None → IsFlagPart front g a) made (λ unbroken.
    let one = not_first rules.compound_flag (is_no_flag compound) (rule rules.deletion_count (is_no_deletion front deleted) ∷ rule rules.prox_flag (ltb 1 prox) ∷ []) unbroken in
    let two = not_first rules.deletion_count (is_no_deletion front deleted) (rule rules.prox_flag (ltb 1 prox) ∷ []) one.1 in
    let three = not_first rules.prox_flag (ltb 1 prox) [] two.1 in
    let count = deleted-are front deleted two.0 in
    let bytes : a ≡ spelling byte compound ++ (spelling int32 deleted ++ spelling byte prox) =
    is ∙ ap (λ (t : List ℕ). spelling byte compound ++ t) (is_2 ∙ ap (λ (t : List ℕ). spelling int32 deleted ++ t) (is_3 ∙ ap (λ (t : List ℕ). spelling byte prox ++ t) none ∙ append-nil (spelling byte prox))) in
    record {
      deleted = count.0;
      spelled = bytes ∙ ap (λ (n : ℕ). spelling byte n ++ (spelling int32 deleted ++ spelling byte prox)) (sym (same_flag compound one.0))
          ∙ ap (λ (z : ℤ). spelling byte (cond (eqb compound PACKED) PACKED NOT_PACKED) ++ (spelling int32 z ++ spelling byte prox)) count.1
          ∙ ap (λ (n : ℕ). spelling byte (cond (eqb compound PACKED) PACKED NOT_PACKED) ++ (spelling int32 (pos (count_or_zero deleted)) ++ spelling byte n)) (sym (same_bit prox three.0));
    }) good
