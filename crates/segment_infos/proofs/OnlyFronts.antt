-- The first parts of a good segment are those of what it says.
use Rattle.std.proofs.Common.{◌≡◌, ℕ, ◌+◌, ◌≤◌, ℤ, pos, negsuc, Bool, true, false, not, eqb, ltb, cond, List, [], ◌∷◌, ◌++◌, Option, Some, None, refl, sym, ap, subst, ◌∙◌, arith, inl, inr, FitsSigned, w32, w64}
use Rattle.std.specs.Prelude.{is_none, unwrap_or}
use Rattle.std.proofs.lemmas.Bool.{cases_Bool, eqb-true, eqb-false, ltb-false}
use Rattle.std.proofs.lemmas.List.{append-nil}
use Rattle.lu_grammar.specs.Parts.{byte, int32, int64, text, spelling}
use Rattle.lu_grammar.specs.Records.{whole, Spells, first_broken}
use Rattle.lu_types.specs.RuleNumbers as rules
use Rattle.lu_types.specs.Names.{greatest_segment, segment_name}
use Rattle.segment_infos.specs.declared.infos.SegInfo.{SegInfo}
use Rattle.segment_infos.specs.declared.record.TheConstants.{MOST_DOCUMENTS, PACKED}
use Rattle.segment_infos.specs.declared.record.SharedStorePart.{SharedStorePart}
use Rattle.segment_infos.specs.declared.record.FrontPart.{FrontPart}
use Rattle.segment_infos.specs.Numbers.{is_negative, is_below_none, is_none_number, is_no_generation, count_or_zero, given, number_or_none, segment_number_in}
use Rattle.segment_infos.specs.Values.{IsGeneration, IsStore, total_size}
use Rattle.segment_infos.specs.Records.{store_if, front_shape}
use Rattle.segment_infos.specs.Conditions.{rule, is_no_size, has_other_store, has_other_flag, name_conditions, size_conditions, store_conditions}
use Rattle.segment_infos.specs.Format.{store_of}
use Rattle.segment_infos.specs.Spelling.{store_bytes}
use Rattle.segment_infos.proofs.SpelledPieces.{followed-spelled}
use Rattle.segment_infos.proofs.OnlyParts.{none_number, or_false, not_negative}
use Rattle.segment_infos.proofs.GoodLines.{not_first, name-new}
use Rattle.segment_infos.proofs.SegmentNumberIn.{Names-segment_number_in}

-- ---- a generation

pub gen-made : (z : ℤ) → FitsSigned w64 z → is_no_generation z ≡ false → IsGeneration (given z) × (z ≡ number_or_none (given z))
gen-made (pos n) fits h =
    let some : n ≡ 0 → ⊥ = eqb-false n 0 h in
    ((omega arith, omega (arith, fits)), refl)
gen-made (negsuc n) fits h = (tt, ap (λ (k : ℕ). negsuc k) (none_number n h))

-- ---- a store

-- a name that is one has its number
named : (name : List ℕ) → is_none (segment_number_in name) ≡ false → (unwrap_or (segment_number_in name) 0 ≤ greatest_segment) × (name ≡ segment_name (unwrap_or (segment_number_in name) 0))
named name h = go (segment_number_in name) refl h
  where
    go : (o : Option ℕ) → segment_number_in name ≡ o → is_none o ≡ false → (unwrap_or o 0 ≤ greatest_segment) × (name ≡ segment_name (unwrap_or o 0))
    go None is e = absurd (let bad : true ≡ false = e in cc)
    go (Some n) is e = Names-segment_number_in name n is

same_pack : (flag : ℕ) → ltb PACKED flag ≡ false → cond (eqb flag PACKED) PACKED 0 ≡ flag
same_pack flag h =
    let most : flag ≤ PACKED = ltb-false PACKED flag h in
    elim (cases_Bool (eqb flag PACKED)) [
      | inl packed ↦ rw packed (sym (eqb-true flag PACKED packed))
      | inr other ↦ let not_one : flag ≡ PACKED → ⊥ = eqb-false flag PACKED other in rw other (omega arith)
    ]

pub record IsStorePart (offset : ℤ) (store : Option SharedStorePart) (a : List ℕ) : Type 0 where
  pub is : IsStore (store_of offset store)
  pub spelled : spelling int32 offset ++ a ≡ store_bytes (store_of offset store)

store-there : (n : ℕ) (store : Option SharedStorePart) (a : List ℕ) → FitsSigned w32 (pos n) → Spells (store_if true) store a → has_other_store store ≡ false → has_other_flag store ≡ false → IsStorePart (pos n) store a
store-there n store a fits (name, b, text_fits, is, (flag, c, byte_fits, is_2, (made, none))) good_name good_flag =
    subst (λ (s : Option SharedStorePart). has_other_store s ≡ false → has_other_flag s ≡ false → IsStorePart (pos n) s a) made (λ has_name has_flag.
    let number = named name has_name in
    let bytes : a ≡ spelling text name ++ spelling byte flag = is ∙ ap (λ (t : List ℕ). spelling text name ++ t) (is_2 ∙ ap (λ (t : List ℕ). spelling byte flag ++ t) none ∙ append-nil (spelling byte flag)) in
    record {
      is = (omega (arith, fits), number.0);
      spelled = ap (λ (t : List ℕ). spelling int32 (pos n) ++ t)
          (bytes ∙ ap (λ (t : List ℕ). spelling text t ++ spelling byte flag) number.1
          ∙ ap (λ (k : ℕ). spelling text (segment_name (unwrap_or (segment_number_in name) 0)) ++ spelling byte k) (sym (same_pack flag has_flag)));
    }) good_name good_flag

store-absent : (offset : ℤ) (store : Option SharedStorePart) (a : List ℕ) → offset ≡ negsuc 0 → Spells (store_if false) store a → IsStorePart offset store a
store-absent offset store a is_none_offset (made, none) =
    subst (λ (s : Option SharedStorePart). IsStorePart offset s a) made
    (record { is = tt; spelled = ap (λ (t : List ℕ). spelling int32 offset ++ t) none ∙ append-nil (spelling int32 offset) ∙ ap (spelling int32) is_none_offset })

pub store-is : (offset : ℤ) (store : Option SharedStorePart) (a : List ℕ) → FitsSigned w32 offset → Spells (store_if (not (is_none_number offset))) store a → is_below_none offset ≡ false → has_other_store store ≡ false → has_other_flag store ≡ false
    → IsStorePart offset store a
store-is (pos n) store a fits spells good good_name good_flag = store-there n store a fits spells good_name good_flag
store-is (negsuc n) store a fits spells good good_name good_flag =
    let is : n ≡ 0 = none_number n good in
    let number : is_none_number (negsuc n) ≡ true = ap (λ (k : ℕ). eqb k 0) is in
    store-absent (negsuc n) store a (ap (λ (k : ℕ). negsuc k) is) (subst (λ (b : Bool). Spells (store_if (not b)) store a) number spells)

-- ---- the first parts

pub record IsFrontPart (f : FrontPart) (a : List ℕ) : Type 0 where
  pub number : unwrap_or (segment_number_in f.name) 0 ≤ greatest_segment
  pub size : count_or_zero f.size ≤ MOST_DOCUMENTS
  pub del_gen : IsGeneration (given f.del_gen)
  pub store : IsStore (store_of f.offset f.store)
  pub spelled : a ≡ spelling text (segment_name (unwrap_or (segment_number_in f.name) 0)) ++ (spelling int32 (pos (count_or_zero f.size)) ++ (spelling int64 (number_or_none (given f.del_gen)) ++ store_bytes (store_of f.offset f.store)))

pub front-is : (segments : List SegInfo) (f : FrontPart) (a : List ℕ) → Spells front_shape f a → first_broken (name_conditions segments f) ≡ None → first_broken (size_conditions segments f) ≡ None → first_broken (store_conditions f) ≡ None
    → IsFrontPart f a
front-is segments f a (name, b, fits, is, (size, c, fits_2, is_2, (del_gen, d, fits_3, is_3, (offset, e, fits_4, is_4, spells)))) names sizes stores =
    let next = λ (store : Option SharedStorePart). whole (let made : FrontPart = record { name = name; size = size; del_gen = del_gen; offset = offset; store = store } in made) in
    let then = followed-spelled (store_if (not (is_none_number offset))) next f e spells in
    let made : record { name = name; size = size; del_gen = del_gen; offset = offset; store = then.it } ≡ f = then.second.0 in
    let bytes : a ≡ spelling text name ++ (spelling int32 size ++ (spelling int64 del_gen ++ (spelling int32 offset ++ then.bytes))) =
    is ∙ ap (λ (t : List ℕ). spelling text name ++ t) (is_2 ∙ ap (λ (t : List ℕ). spelling int32 size ++ t) (is_3 ∙ ap (λ (t : List ℕ). spelling int64 del_gen ++ t) (is_4 ∙ ap (λ (t : List ℕ). spelling int32 offset ++ t) (then.split ∙ ap (λ (t : List ℕ). then.bytes ++ t) then.second.1 ∙ append-nil then.bytes)))) in
    subst (λ (g : FrontPart). first_broken (name_conditions segments g) ≡ None → first_broken (size_conditions segments g) ≡ None → first_broken (store_conditions g) ≡ None → IsFrontPart g a) made
    (go then.it then.bytes then.first bytes) names sizes stores
  where
    go : (store : Option SharedStorePart) (bs : List ℕ) → Spells (store_if (not (is_none_number offset))) store bs → a ≡ spelling text name ++ (spelling int32 size ++ (spelling int64 del_gen ++ (spelling int32 offset ++ bs)))
        → (let g : FrontPart = record { name = name; size = size; del_gen = del_gen; offset = offset; store = store } in first_broken (name_conditions segments g) ≡ None → first_broken (size_conditions segments g) ≡ None → first_broken (store_conditions g) ≡ None → IsFrontPart g a)
    go store bs spelled bytes names sizes stores =
        let g : FrontPart = record { name = name; size = size; del_gen = del_gen; offset = offset; store = store } in
        let new = name-new segments g names in
        let number = Names-segment_number_in name new.number new.is in
        let is_number : unwrap_or (segment_number_in name) 0 ≡ new.number = ap (λ (o : Option ℕ). unwrap_or o 0) new.is in
        let one = not_first rules.seg_size (is_no_size size) (rule rules.size_sum (ltb MOST_DOCUMENTS (total_size segments + count_or_zero size)) ∷ []) sizes in
        let two = or_false (is_negative size) (ltb MOST_DOCUMENTS (count_or_zero size)) one.0 in
        let three = not_first rules.del_gen (is_no_generation del_gen) (rule rules.shared_store (is_below_none offset) ∷ rule rules.store_name (has_other_store store) ∷ rule rules.store_flag (has_other_flag store) ∷ []) stores in
        let four = not_first rules.shared_store (is_below_none offset) (rule rules.store_name (has_other_store store) ∷ rule rules.store_flag (has_other_flag store) ∷ []) three.1 in
        let five = not_first rules.store_name (has_other_store store) (rule rules.store_flag (has_other_flag store) ∷ []) four.1 in
        let six = not_first rules.store_flag (has_other_flag store) [] five.1 in
        let gen = gen-made del_gen fits_3 three.0 in
        let shared = store-is offset store bs fits_4 spelled four.0 five.0 six.0 in
        record {
          number = subst (λ (k : ℕ). k ≤ greatest_segment) (sym is_number) number.0;
          size = ltb-false MOST_DOCUMENTS (count_or_zero size) two.1;
          del_gen = gen.0;
          store = shared.is;
          spelled = bytes ∙ ap (λ (t : List ℕ). spelling text t ++ (spelling int32 size ++ (spelling int64 del_gen ++ (spelling int32 offset ++ bs)))) (number.1 ∙ ap segment_name (sym is_number))
              ∙ ap (λ (t : List ℕ). spelling text (segment_name (unwrap_or (segment_number_in name) 0)) ++ t)
              (ap (λ (z : ℤ). spelling int32 z ++ (spelling int64 del_gen ++ (spelling int32 offset ++ bs))) (not_negative size two.0)
              ∙ ap (λ (t : List ℕ). spelling int32 (pos (count_or_zero size)) ++ t) (ap (λ (z : ℤ). spelling int64 z ++ (spelling int32 offset ++ bs)) gen.1 ∙ ap (λ (t : List ℕ). spelling int64 (number_or_none (given del_gen)) ++ t) shared.spelled));
        }
