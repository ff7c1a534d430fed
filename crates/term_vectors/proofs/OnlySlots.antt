-- The fields and the differences of a document's vectors that were read are spelled as the writer does.
use Rattle.std.proofs.Common.{◌≡◌, ℕ, zero, suc, ◌+◌, ◌-◌, Bool, List, [], ◌∷◌, ◌++◌, length, map, refl, sym, ap, ◌∙◌, arith}
use Rattle.std.specs.List.{flat_map}
use Rattle.lu_types.specs.Tables.{TableField}
use Rattle.lu_grammar.specs.Parts.{num, vlong, spelling}
use Rattle.lu_grammar.specs.Meaning.{Spelled, bytes_of}
use Rattle.term_vectors.specs.Format.{headed}
use Rattle.term_vectors.specs.Fields.{TvdRecord, VectorPlace, number, difference, stated, number_shape, number_conditions, numbers_plan, difference_shape, difference_conditions, further_plan, placed}
use Rattle.term_vectors.specs.Vectors.{StoredVector}
use Rattle.term_vectors.specs.VectorBytes.{vector_bytes, vector_number_bytes, vector_length_bytes, differences_bytes}
use Rattle.term_vectors.proofs.WritesVectors.{slots_from}
use Rattle.term_vectors.proofs.WritesFields.{further_from}
use Rattle.term_vectors.proofs.PlanRecords.{AreRecordsOf, records_done, records_due, records_headed, of_one}

-- ---- numbers

pub numbers_only : (asked : Bool) (fields : List TableField) (n : ℕ) (before : List ℕ) (place : ℕ) (ss : List (Spelled TvdRecord)) (numbers : List ℕ) → AreRecordsOf (numbers_plan asked fields n before) place ss numbers
    → (bytes_of ss ≡ flat_map (λ m. spelling num m) numbers) × (length numbers ≡ n)
unfolding numbers_plan
numbers_only asked fields zero before place ss numbers h =
    let none = records_done [] numbers place ss h in
    (ap (λ (xs : List (Spelled TvdRecord)). bytes_of xs) none.0 ∙ ap (λ (ns : List ℕ). flat_map (λ m. spelling num m) ns) none.1, ap (λ (ns : List ℕ). length ns) (sym none.1))
numbers_only asked fields (suc n) before place ss numbers h =
    let parts = records_due number_shape (λ _ r. number_conditions asked fields before (stated r)) (λ _ r. headed (stated r) (numbers_plan asked fields n (stated r ∷ before))) place ss numbers h in
    let s = parts.first in
    let m = stated s.it in
    let here = place + length s.front in
    let one = of_one num (λ k. number k) s.it s.front parts.spells in
    let front : s.front ≡ spelling num m = one.front_is ∙ ap (λ (r : TvdRecord). spelling num (stated r)) one.is in
    let more = records_headed m (numbers_plan asked fields n (m ∷ before)) here parts.rest numbers parts.others in
    let rest = numbers_only asked fields n (m ∷ before) here parts.rest more.0 more.1 in (
      ap (λ (xs : List (Spelled TvdRecord)). bytes_of xs) parts.all ∙ ap (λ (t : List ℕ). t ++ bytes_of parts.rest) front ∙ ap (λ (t : List ℕ). spelling num m ++ t) rest.0
          ∙ ap (λ (ns : List ℕ). flat_map (λ k. spelling num k) ns) (sym more.2),
      ap (λ (ns : List ℕ). length ns) more.2 ∙ ap suc rest.1,
    )

-- ---- differences

-- how far each place is from the one before, the first from this one
unfoldable pub apart_bytes : ℕ → List ℕ → List ℕ
apart_bytes place [] = []
apart_bytes place (p ∷ ps) = spelling vlong (p - place) ++ apart_bytes p ps

pub further_only : (n first place : ℕ) (ss : List (Spelled TvdRecord)) (further : List ℕ) → AreRecordsOf (further_plan n first) place ss further → (bytes_of ss ≡ apart_bytes first further) × (length further ≡ n)
unfolding further_plan apart_bytes
further_only zero first place ss further h =
    let none = records_done [] further place ss h in
    (ap (λ (xs : List (Spelled TvdRecord)). bytes_of xs) none.0 ∙ ap (λ (ps : List ℕ). apart_bytes first ps) none.1, ap (λ (ps : List ℕ). length ps) (sym none.1))
further_only (suc n) first place ss further h =
    let parts = records_due difference_shape (λ _ r. difference_conditions first (stated r)) (λ _ r. headed (first + stated r) (further_plan n (first + stated r))) place ss further h in
    let s = parts.first in
    let p = first + stated s.it in
    let here = place + length s.front in
    let one = of_one vlong (λ k. difference k) s.it s.front parts.spells in
    let back : stated s.it ≡ p - first = omega arith in
    let front : s.front ≡ spelling vlong (p - first) = one.front_is ∙ ap (λ (r : TvdRecord). spelling vlong (stated r)) one.is ∙ ap (λ (k : ℕ). spelling vlong k) back in
    let more = records_headed p (further_plan n p) here parts.rest further parts.others in
    let rest = further_only n p here parts.rest more.0 more.1 in (
      ap (λ (xs : List (Spelled TvdRecord)). bytes_of xs) parts.all ∙ ap (λ (t : List ℕ). t ++ bytes_of parts.rest) front ∙ ap (λ (t : List ℕ). spelling vlong (p - first) ++ t) rest.0
          ∙ ap (λ (ps : List ℕ). apart_bytes first ps) (sym more.2),
      ap (λ (ps : List ℕ). length ps) more.2 ∙ ap suc rest.1,
    )

-- ---- the vectors that stand so

-- the fields and places of vectors that stand where the writer's do
pub record StandAs (numbers further : List ℕ) (p place : ℕ) (vs : List StoredVector) : Type 0 where
  pub numbers_are : numbers ≡ map (λ v. v.field) vs
  pub further_are : further ≡ further_from place vs
  pub first_is : p ≡ place

pub heads : (a b : VectorPlace) (xs ys : List VectorPlace) → a ∷ xs ≡ b ∷ ys → a ≡ b
heads a b xs ys h = cc

pub tails : (a b : VectorPlace) (xs ys : List VectorPlace) → a ∷ xs ≡ b ∷ ys → xs ≡ ys
tails a b xs ys h = cc

pub none-some : (a : VectorPlace) (xs : List VectorPlace) → [] ≡ a ∷ xs → ⊥
none-some a xs h = cc

pub stand_as : (v : StoredVector) (vs : List StoredVector) (p place : ℕ) (numbers further : List ℕ) → placed numbers (p ∷ further) ≡ slots_from place (v ∷ vs) → length further ≡ length numbers - 1
    → StandAs numbers further p place (v ∷ vs)
unfolding placed slots_from further_from
stand_as v vs p place [] further h long = absurd (none-some _ _ h)
stand_as v [] p place (n ∷ []) [] h long =
    let same = heads (record { field = n; place = p }) (record { field = v.field; place = place }) [] [] h in
    record { numbers_are = ap (λ (a : VectorPlace). a.field ∷ []) same; further_are = refl; first_is = ap (λ (a : VectorPlace). a.place) same }
stand_as v (w ∷ vs) p place (n ∷ []) [] h long = absurd (none-some _ _ (tails _ _ _ _ h))
stand_as v vs p place (n ∷ []) (f ∷ further) h long = absurd (omega (arith, long))
stand_as v vs p place (n ∷ m ∷ numbers) [] h long = absurd (omega (arith, long))
stand_as v [] p place (n ∷ m ∷ numbers) (f ∷ further) h long = absurd (none-some _ _ (sym (tails _ _ _ _ h)))
stand_as v (w ∷ vs) p place (n ∷ m ∷ numbers) (f ∷ further) h long =
    let next = place + length (vector_bytes v) in
    let same = heads (record { field = n; place = p }) (record { field = v.field; place = place }) (placed (m ∷ numbers) (f ∷ further)) (slots_from next (w ∷ vs)) h in
    let later = tails (record { field = n; place = p }) (record { field = v.field; place = place }) (placed (m ∷ numbers) (f ∷ further)) (slots_from next (w ∷ vs)) h in
    let rest = stand_as w vs f next (m ∷ numbers) further later (omega (arith, long)) in
    record {
      numbers_are = ap (λ (a : VectorPlace). a.field ∷ (m ∷ numbers)) same ∙ ap (λ (t : List ℕ). v.field ∷ t) rest.numbers_are;
      further_are = ap (λ (q : ℕ). q ∷ further) rest.first_is ∙ ap (λ (t : List ℕ). next ∷ t) rest.further_are;
      first_is = ap (λ (a : VectorPlace). a.place) same;
    }

-- their spellings are those of the vectors
pub numbers_bytes : (vs : List StoredVector) → flat_map (λ m. spelling num m) (map (λ v. v.field) vs) ≡ flat_map vector_number_bytes vs
numbers_bytes [] = refl
numbers_bytes (v ∷ vs) = ap (λ (t : List ℕ). vector_number_bytes v ++ t) (numbers_bytes vs)

pub apart-is : (vs : List StoredVector) (place : ℕ) → apart_bytes place (further_from place vs) ≡ differences_bytes vs
unfolding apart_bytes further_from differences_bytes
apart-is [] place = refl
apart-is (v ∷ []) place = refl
apart-is (v ∷ w ∷ vs) place =
    let long = length (vector_bytes v) in
    let back : place + long - place ≡ long = omega arith in
    ap (λ (k : ℕ). spelling vlong k ++ apart_bytes (place + long) (further_from (place + long) (w ∷ vs))) back ∙ ap (λ (t : List ℕ). vector_length_bytes v ++ t) (apart-is (w ∷ vs) (place + long))
