-- The parts that a segment is written as are good, and say the segment.
use Rattle.std.proofs.Common.{◌≡◌, ℕ, ◌+◌, ◌≤◌, ℤ, pos, negsuc, Bool, true, false, not, eqb, ltb, cond, List, [], ◌∷◌, ◌++◌, Option, Some, None, refl, ap, ◌∙◌, arith}
use Rattle.std.specs.Prelude.{is_none, unwrap_or}
use Rattle.std.specs.Option.{option_or}
use Rattle.std.proofs.lemmas.Bool.{le-ltb, eq-eqb, ne_eqb}
use Rattle.std.proofs.lemmas.List.Folds.{list_any_none}
use Rattle.lu_grammar.specs.Records.{Condition, first_broken}
use Rattle.lu_types.specs.RuleNumbers as rules
use Rattle.lu_types.specs.declared.stored.SharedStore.{SharedStore}
use Rattle.segment_infos.specs.declared.infos.SegInfo.{SegInfo}
use Rattle.segment_infos.specs.declared.record.TheConstants.{MOST_DOCUMENTS, PACKED, NOT_PACKED}
use Rattle.segment_infos.specs.Numbers.{is_below_none, is_no_generation, given, number_or_none}
use Rattle.segment_infos.specs.Values.{IsGeneration, IsStore, IsNormGen, AreNormGens, AreDeleted, IsLine, total_size}
use Rattle.segment_infos.specs.Conditions.{rule, has_number, is_twice, has_other_store, has_other_flag, name_conditions, size_conditions, store_conditions, norm_conditions, is_no_flag, is_no_deletion, flag_conditions, map_conditions, line_conditions}
use Rattle.segment_infos.specs.Format.{store_of, norm_gens_of, segment_of_line}
use Rattle.segment_infos.proofs.SegmentNumberIn.{segment_number_in-segment_name}
use Rattle.segment_infos.proofs.Judged.{first_broken-append}
use Rattle.segment_infos.proofs.LineParts.{offset_in, store_in, front_of, norms_in, flags_of, map_of, line_of}

-- ---- no condition is broken

both_none : (a b : List Condition) → first_broken a ≡ None → first_broken b ≡ None → first_broken (a ++ b) ≡ None
both_none a b e f = first_broken-append a b ∙ ap (λ (o : Option ℕ). option_or o (first_broken b)) e ∙ f

module _ (segments : List SegInfo) (s : SegInfo) (is : IsLine s) (new : has_number segments s.number ≡ false) (room : total_size segments + s.size ≤ MOST_DOCUMENTS) where
  names : first_broken (name_conditions segments (front_of s)) ≡ None
  names = ap (λ (o : Option ℕ). first_broken (rule rules.seg_name (is_none o) ∷ rule rules.seg_twice (is_twice segments o) ∷ [])) (segment_number_in-segment_name s.number is.number)
      ∙ ap (λ (b : Bool). first_broken (rule rules.seg_name false ∷ rule rules.seg_twice b ∷ [])) new

  sizes : first_broken (size_conditions segments (front_of s)) ≡ None
  sizes =
      let size : ltb MOST_DOCUMENTS s.size ≡ false = le-ltb MOST_DOCUMENTS s.size is.size in
      let sum : ltb MOST_DOCUMENTS (total_size segments + s.size) ≡ false = le-ltb MOST_DOCUMENTS (total_size segments + s.size) room in
      ap (λ (b : Bool). first_broken (rule rules.seg_size b ∷ rule rules.size_sum (ltb MOST_DOCUMENTS (total_size segments + s.size)) ∷ [])) size
      ∙ ap (λ (b : Bool). first_broken (rule rules.seg_size false ∷ rule rules.size_sum b ∷ [])) sum

gen-good : (g : Option ℕ) → IsGeneration g → is_no_generation (number_or_none g) ≡ false
gen-good None is = refl
gen-good (Some n) is = ne_eqb n 0 (λ e. omega (arith, is.0))

offset-good : (store : Option SharedStore) → is_below_none (offset_in store) ≡ false
offset-good None = refl
offset-good (Some s) = refl

store-good : (store : Option SharedStore) → IsStore store → has_other_store (store_in store) ≡ false
store-good None is = refl
store-good (Some s) is = ap is_none (segment_number_in-segment_name s.number is.1)

pack-good : (b : Bool) → ltb PACKED (cond b PACKED 0) ≡ false
pack-good true = refl
pack-good false = refl

flag-good : (store : Option SharedStore) → has_other_flag (store_in store) ≡ false
flag-good None = refl
flag-good (Some s) = pack-good s.compound

stores : (s : SegInfo) → IsLine s → first_broken (store_conditions (front_of s)) ≡ None
stores s is =
    ap (λ (b : Bool). first_broken (rule rules.del_gen b ∷ rule rules.shared_store (is_below_none (offset_in s.store)) ∷ rule rules.store_name (has_other_store (store_in s.store)) ∷ rule rules.store_flag (has_other_flag (store_in s.store)) ∷ [])) (gen-good s.del_gen is.del_gen)
    ∙ ap (λ (b : Bool). first_broken (rule rules.shared_store b ∷ rule rules.store_name (has_other_store (store_in s.store)) ∷ rule rules.store_flag (has_other_flag (store_in s.store)) ∷ [])) (offset-good s.store)
    ∙ ap (λ (b : Bool). first_broken (rule rules.store_name b ∷ rule rules.store_flag (has_other_flag (store_in s.store)) ∷ [])) (store-good s.store is.store)
    ∙ ap (λ (b : Bool). first_broken (rule rules.store_flag b ∷ [])) (flag-good s.store)

norm_gen-good : (g : ℤ) → IsNormGen g → is_no_generation g ≡ false
norm_gen-good (pos n) is = ne_eqb n 0 (λ e. omega (arith, is.0))
norm_gen-good (negsuc n) is = ap not (eq-eqb n 0 is)

norms : (gens : Option (List ℤ)) → AreNormGens gens → first_broken (norm_conditions (norms_in gens)) ≡ None
norms None is = refl
norms (Some gens) is = ap (λ (b : Bool). first_broken (rule rules.separate_norms b ∷ [])) (list_any_none is_no_generation gens (λ k d lt. norm_gen-good _ (is.1 k d lt)))

compound-good : (b : Bool) → is_no_flag (cond b PACKED NOT_PACKED) ≡ false
compound-good true = refl
compound-good false = refl

prox-good : (b : Bool) → ltb 1 (cond b 1 0) ≡ false
prox-good true = refl
prox-good false = refl

deletion-good : (s : SegInfo) → AreDeleted s.del_gen s.size s.deleted → is_no_deletion (front_of s) (pos s.deleted) ≡ false
deletion-good s are = go s.del_gen are
  where
    go : (g : Option ℕ) → AreDeleted g s.size s.deleted → is_no_deletion (let f = front_of s in record f { del_gen = number_or_none g }) (pos s.deleted) ≡ false
    go None none =
        let few : ltb s.size s.deleted ≡ false = le-ltb s.size s.deleted (omega (arith, none)) in
        let zero : eqb s.deleted 0 ≡ true = eq-eqb s.deleted 0 none in
        rw (few, zero) refl
    go (Some n) few =
        let most : ltb s.size s.deleted ≡ false = le-ltb s.size s.deleted few in
        rw most refl

flags : (s : SegInfo) → IsLine s → first_broken (flag_conditions (front_of s) (flags_of s)) ≡ None
flags s is =
    ap (λ (b : Bool). first_broken (rule rules.compound_flag b ∷ rule rules.deletion_count (is_no_deletion (front_of s) (pos s.deleted)) ∷ rule rules.prox_flag (ltb 1 (cond s.has_prox 1 0)) ∷ [])) (compound-good s.compound)
    ∙ ap (λ (b : Bool). first_broken (rule rules.deletion_count b ∷ rule rules.prox_flag (ltb 1 (cond s.has_prox 1 0)) ∷ [])) (deletion-good s is.deleted)
    ∙ ap (λ (b : Bool). first_broken (rule rules.prox_flag b ∷ [])) (prox-good s.has_prox)

pub line_of-good : (segments : List SegInfo) (s : SegInfo) → IsLine s → has_number segments s.number ≡ false → total_size segments + s.size ≤ MOST_DOCUMENTS → first_broken (line_conditions segments (line_of s)) ≡ None
unfolding line_of
line_of-good segments s is new room =
    let f = front_of s in
    both_none (name_conditions segments f) (size_conditions segments f ++ (store_conditions f ++ (norm_conditions (norms_in s.norm_gens) ++ (flag_conditions f (flags_of s) ++ map_conditions (map_of s.diagnostics))))) (names segments s is new room)
    (both_none (size_conditions segments f) (store_conditions f ++ (norm_conditions (norms_in s.norm_gens) ++ (flag_conditions f (flags_of s) ++ map_conditions (map_of s.diagnostics)))) (sizes segments s is new room)
    (both_none (store_conditions f) (norm_conditions (norms_in s.norm_gens) ++ (flag_conditions f (flags_of s) ++ map_conditions (map_of s.diagnostics))) (stores s is)
    (both_none (norm_conditions (norms_in s.norm_gens)) (flag_conditions f (flags_of s) ++ map_conditions (map_of s.diagnostics)) (norms s.norm_gens is.norm_gens)
    (both_none (flag_conditions f (flags_of s)) (map_conditions (map_of s.diagnostics)) (flags s is) refl))))

-- ---- what they say

given-back : (g : Option ℕ) → given (number_or_none g) ≡ g
given-back None = refl
given-back (Some n) = refl

pack-back : (b : Bool) → eqb (cond b PACKED 0) PACKED ≡ b
pack-back true = refl
pack-back false = refl

compound-back : (b : Bool) → eqb (cond b PACKED NOT_PACKED) PACKED ≡ b
compound-back true = refl
compound-back false = refl

prox-back : (b : Bool) → eqb (cond b 1 0) 1 ≡ b
prox-back true = refl
prox-back false = refl

store-back : (store : Option SharedStore) → IsStore store → store_of (offset_in store) (store_in store) ≡ store
store-back None is = refl
store-back (Some s) is =
    ap (λ (o : Option ℕ). Some (let t : SharedStore = record { offset = s.offset; number = unwrap_or o 0; compound = eqb (cond s.compound PACKED 0) PACKED } in t)) (segment_number_in-segment_name s.number is.1)
    ∙ ap (λ (b : Bool). Some (let t : SharedStore = record { offset = s.offset; number = s.number; compound = b } in t)) (pack-back s.compound)

gens-back : (gens : Option (List ℤ)) → norm_gens_of (norms_in gens) ≡ gens
gens-back None = refl
gens-back (Some gens) = refl

pub segment_of_line-line_of : (s : SegInfo) → IsLine s → segment_of_line (line_of s) ≡ s
unfolding segment_of_line line_of
segment_of_line-line_of s is =
    ap (λ (o : Option ℕ). made (unwrap_or o 0) (given (number_or_none s.del_gen)) (store_of (offset_in s.store) (store_in s.store)) (norm_gens_of (norms_in s.norm_gens)) (eqb (cond s.compound PACKED NOT_PACKED) PACKED) (eqb (cond s.has_prox 1 0) 1)) (segment_number_in-segment_name s.number is.number)
    ∙ ap (λ (g : Option ℕ). made s.number g (store_of (offset_in s.store) (store_in s.store)) (norm_gens_of (norms_in s.norm_gens)) (eqb (cond s.compound PACKED NOT_PACKED) PACKED) (eqb (cond s.has_prox 1 0) 1)) (given-back s.del_gen)
    ∙ ap (λ (t : Option SharedStore). made s.number s.del_gen t (norm_gens_of (norms_in s.norm_gens)) (eqb (cond s.compound PACKED NOT_PACKED) PACKED) (eqb (cond s.has_prox 1 0) 1)) (store-back s.store is.store)
    ∙ ap (λ (g : Option (List ℤ)). made s.number s.del_gen s.store g (eqb (cond s.compound PACKED NOT_PACKED) PACKED) (eqb (cond s.has_prox 1 0) 1)) (gens-back s.norm_gens)
    ∙ ap (λ (b : Bool). made s.number s.del_gen s.store s.norm_gens b (eqb (cond s.has_prox 1 0) 1)) (compound-back s.compound)
    ∙ ap (λ (b : Bool). made s.number s.del_gen s.store s.norm_gens s.compound b) (prox-back s.has_prox)
  where
    made : ℕ → Option ℕ → Option SharedStore → Option (List ℤ) → Bool → Bool → SegInfo
    made number gen store gens compound prox = record { number = number; size = s.size; del_gen = gen; store = store; norm_gens = gens; compound = compound; deleted = s.deleted; has_prox = prox; diagnostics = s.diagnostics }
