-- What the written `.tvd` is read as.
use Rattle.std.proofs.Common.{◌≡◌, ◌≢◌, ℕ, suc, ◌+◌, ◌-◌, ◌^◌, ◌<◌, Bool, true, false, not, eqb, ltb, List, [], ◌∷◌, ◌++◌, length, map, None, refl, sym, ap, subst, arith}
use Rattle.std.specs.Prelude.{All, AllPairs, slice_index_or, ◌&&◌}
use Rattle.std.specs.List.{flat_map}
use Rattle.std.proofs.lemmas.Bool.{le-ltb, eq-eqb, ne_eqb}
use Rattle.std.proofs.lemmas.List.{append-nil, length-append}
use Rattle.lu_types.specs.Tables.{TableField}
use Rattle.lu_types.specs.declared.stored.Window.{Window}
use Rattle.lu_grammar.specs.Parts.{num, spelling}
use Rattle.lu_grammar.specs.Records.{first_broken}
use Rattle.lu_grammar.specs.Plans.{Plan, done, and_then}
use Rattle.lu_grammar.proofs.Codecs.{Writes, Writes-due, Writes-done, Writes-and_then}
use Rattle.lu_types.specs.Stores.{greatest_place}
use Rattle.term_vectors.specs.Format.{vector_format, format_shape, headed}
use Rattle.term_vectors.specs.Fields.{TvdRecord, VectorPlace, format, count, number, difference, stated, format_conditions, count_shape, count_conditions, has_vectors, is_among, number_shape, number_conditions, numbers_plan, difference_shape, difference_conditions, further_plan, placed, document_plan, is_within, documents_plan, tvd_plan}
use Rattle.term_vectors.specs.Vectors.{StoredVector}
use Rattle.term_vectors.specs.VectorBytes.{vector_header_bytes, vector_bytes, vectors_bytes, vector_number_bytes, vector_length_bytes, differences_bytes, document_fields_bytes, tvd_bytes, written_places}
use Rattle.term_vectors.specs.Writable.{IsWritableVector, AreWritableVectors}
use Rattle.term_vectors.proofs.WritesTerms.{writes-headed}
use Rattle.term_vectors.proofs.WritesVectors.{slots_from, all_slots, format_fits}

-- ---- the fields of a document's vectors

-- the fields differ from these, and from one another
AreApartFrom : List ℕ → List StoredVector → Type 0
AreApartFrom before [] = Unit {0}
AreApartFrom before (v ∷ vs) = (is_among v.field before ≡ false) × AreApartFrom (v.field ∷ before) vs

-- none of the vectors is of one of these fields
abbrev DifferFrom : List ℕ → List StoredVector → Type 0
DifferFrom before vs = All (λ v. is_among v.field before ≡ false) vs

differ_more : (x : StoredVector) (before : List ℕ) (vs : List StoredVector) → All (λ v. x.field ≢ v.field) vs → DifferFrom before vs → DifferFrom (x.field ∷ before) vs
differ_more x before vs other differ k d lt = let f : eqb x.field (slice_index_or vs k d).field ≡ false = ne_eqb _ _ (other k d lt) in rw f (differ k d lt)

apart_from : (vs : List StoredVector) (before : List ℕ) → DifferFrom before vs → AllPairs (λ v w. v.field ≢ w.field) vs → AreApartFrom before vs
unfolding AreApartFrom
apart_from [] before differ apart = tt
apart_from (v ∷ vs) before differ apart = (
  differ 0 v (omega arith),
  apart_from vs (v.field ∷ before) (differ_more v before vs (λ k d lt. apart 0 (suc k) d (omega arith) (omega (arith, lt))) (λ k d lt. differ (suc k) d (omega (arith, lt))))
      (λ i j d lt le. apart (suc i) (suc j) d (omega (arith, lt)) (omega (arith, le))),
)

-- the field has vectors, where this is asked
abbrev pub IsNamed : Bool → List TableField → StoredVector → Type 0
IsNamed asked fields v = asked ≡ true → has_vectors fields v.field ≡ true

number_good : (asked : Bool) (fields : List TableField) (before : List ℕ) (v : StoredVector) → is_among v.field before ≡ false → IsNamed asked fields v → first_broken (number_conditions asked fields before v.field) ≡ None
number_good asked fields before v apart named =
    let there : (asked && not (has_vectors fields v.field)) ≡ false = go asked named in rw (there, apart) refl
  where
    go : (b : Bool) → (b ≡ true → has_vectors fields v.field ≡ true) → (b && not (has_vectors fields v.field)) ≡ false
    go false h = refl
    go true h = ap not (h refl)

writes-numbers : (asked : Bool) (fields : List TableField) (vs : List StoredVector) (before : List ℕ) (place : ℕ) → AreApartFrom before vs → All (IsNamed asked fields) vs → All IsWritableVector vs
    → Writes (numbers_plan asked fields (length vs) before) place (flat_map vector_number_bytes vs) (map (λ v. v.field) vs)
unfolding AreApartFrom numbers_plan
writes-numbers asked fields [] before place apart named good = Writes-done place []
writes-numbers asked fields (v ∷ vs) before place apart named good =
    let front = vector_number_bytes v in
    let here = place + length front in
    let numbers = map (λ (w : StoredVector). w.field) vs in
    let one : IsWritableVector v = good 0 v (omega arith) in
    Writes-due number_shape (λ _ r. number_conditions asked fields before (stated r)) (λ _ r. headed (stated r) (numbers_plan asked fields (length vs) (stated r ∷ before))) place (number v.field) front
    (flat_map vector_number_bytes vs) (v.field ∷ numbers) (v.field, [], one.field, sym (append-nil front), (refl, refl)) (number_good asked fields before v apart.0 (named 0 v (omega arith)))
    (writes-headed v.field (numbers_plan asked fields (length vs) (v.field ∷ before)) here (flat_map vector_number_bytes vs) numbers
    (writes-numbers asked fields vs (v.field ∷ before) here apart.1 (λ k d lt. named (suc k) d (omega (arith, lt))) (λ k d lt. good (suc k) d (omega (arith, lt)))))

-- ---- how far they stand apart

-- the places of the vectors behind the first, which stands at this place
unfoldable pub further_from : ℕ → List StoredVector → List ℕ
further_from place [] = []
further_from place (v ∷ []) = []
further_from place (v ∷ w ∷ vs) = (place + length (vector_bytes v)) ∷ further_from (place + length (vector_bytes v)) (w ∷ vs)

difference_good : (place far : ℕ) → place + far < 2 ^ 31 → first_broken (difference_conditions place far) ≡ None
difference_good place far lt = let fits : ltb greatest_place (place + far) ≡ false = le-ltb greatest_place (place + far) (omega (arith, lt)) in rw fits refl

writes-further : (vs : List StoredVector) (first place : ℕ) → first + length (vectors_bytes vs) < 2 ^ 31 → Writes (further_plan (length vs - 1) first) place (differences_bytes vs) (further_from first vs)
unfolding further_plan differences_bytes further_from
writes-further [] first place short = Writes-done place []
writes-further (v ∷ []) first place short = Writes-done place []
writes-further (v ∷ w ∷ vs) first place short =
    let far = length (vector_bytes v) in
    let front = vector_length_bytes v in
    let here = place + length front in
    let rest = differences_bytes (w ∷ vs) in
    let places = further_from (first + far) (w ∷ vs) in
    let split = length-append (vector_bytes v) (vectors_bytes (w ∷ vs)) in
    let later : first + far + length (vectors_bytes (w ∷ vs)) < 2 ^ 31 = omega (arith, short, split) in
    let low : first + far < 2 ^ 31 = omega (arith, later) in
    let fits : far < 2 ^ 63 = omega (arith, low) in
    let one : length (v ∷ w ∷ vs) - 1 ≡ suc (length vs) = omega arith in
    let less : length (w ∷ vs) - 1 ≡ length vs = omega arith in
    let tail : Writes (further_plan (length vs) (first + far)) here rest places =
    subst (λ (n : ℕ). Writes (further_plan n (first + far)) here rest places) less (writes-further (w ∷ vs) (first + far) here later) in
    subst (λ (n : ℕ). Writes (further_plan n first) place (front ++ rest) ((first + far) ∷ places)) (sym one)
    (Writes-due difference_shape (λ _ r. difference_conditions first (stated r)) (λ _ r. headed (first + stated r) (further_plan (length vs) (first + stated r))) place (difference far) front rest ((first + far) ∷ places)
    (far, [], fits, sym (append-nil front), (refl, refl)) (difference_good first far low) (writes-headed (first + far) (further_plan (length vs) (first + far)) here rest places tail))

placed-is : (vs : List StoredVector) (place : ℕ) → placed (map (λ v. v.field) vs) (place ∷ further_from place vs) ≡ slots_from place vs
unfolding placed further_from slots_from
placed-is [] place = refl
placed-is (v ∷ []) place = refl
placed-is (v ∷ w ∷ vs) place = ap (λ (t : List VectorPlace). record { field = v.field; place = place } ∷ t) (placed-is (w ∷ vs) (place + length (vector_bytes v)))

-- ---- a document

pub writes-document : (asked : Bool) (fields : List TableField) (vs : List StoredVector) (tvd tvf : ℕ) → AreWritableVectors vs → All (IsNamed asked fields) vs → tvf + length (vectors_bytes vs) < 2 ^ 31
    → Writes (document_plan asked fields (record { tvd = tvd; tvf = tvf })) tvd (document_fields_bytes vs) (slots_from tvf vs)
writes-document asked fields vs tvd tvf good named short =
    let n = length vs in
    let front = spelling num n in
    let here = tvd + length front in
    let ns = flat_map vector_number_bytes vs in
    let ds = differences_bytes vs in
    let numbers = map (λ (v : StoredVector). v.field) vs in
    let last : List ℕ → List ℕ → Plan (List VectorPlace) TvdRecord = λ numbers further. done (placed numbers (tvf ∷ further)) in
    let tail : List ℕ → Plan (List VectorPlace) TvdRecord = λ numbers. and_then (further_plan (n - 1) tvf) (last numbers) in
    let first = writes-numbers asked fields vs [] here (apart_from vs [] (λ k d lt. refl) good.apart) named good.each in
    let further = writes-further vs tvf (here + length ns) short in
    let end : Writes (last numbers (further_from tvf vs)) (here + length ns + length ds) [] (slots_from tvf vs) =
    subst (λ (x : List VectorPlace). Writes {R = TvdRecord} (done x) (here + length ns + length ds) [] (slots_from tvf vs)) (sym (placed-is vs tvf)) (Writes-done (here + length ns + length ds) (slots_from tvf vs)) in
    let second : Writes (tail numbers) (here + length ns) ds (slots_from tvf vs) =
    subst (λ (x : List ℕ). Writes (tail numbers) (here + length ns) x (slots_from tvf vs)) (append-nil ds)
    (Writes-and_then (further_plan (n - 1) tvf) (last numbers) (here + length ns) ds [] (further_from tvf vs) (slots_from tvf vs) further end) in
    let same : eqb tvd tvd ≡ true = eq-eqb tvd tvd refl in
    let there : first_broken (count_conditions tvd tvd) ≡ None = rw same refl in
    Writes-due count_shape (λ place _. count_conditions tvd place)
    (λ _ r. and_then (numbers_plan asked fields (stated r) []) (λ numbers. and_then (further_plan (stated r - 1) tvf) (λ further. done (placed numbers (tvf ∷ further))))) tvd (count n) front (ns ++ ds) (slots_from tvf vs)
    (n, [], good.few, sym (append-nil front), (refl, refl)) there (Writes-and_then (numbers_plan asked fields n []) tail here ns ds numbers (slots_from tvf vs) first second)

-- ---- documents

-- from the document with this number on, the fields of those that the window has are named
unfoldable pub AreNamedFrom : List TableField → Window → ℕ → List (List StoredVector) → Type 0
AreNamedFrom fields window nth [] = Unit {0}
AreNamedFrom fields window nth (d ∷ ds) = All (IsNamed (is_within window nth) fields) d × AreNamedFrom fields window (suc nth) ds

writes-documents : (fields : List TableField) (window : Window) (ds : List (List StoredVector)) (nth tvd tvf : ℕ) → All AreWritableVectors ds → AreNamedFrom fields window nth ds → tvf + length (flat_map vectors_bytes ds) < 2 ^ 31
    → Writes (documents_plan fields window nth (written_places tvd tvf ds)) tvd (flat_map document_fields_bytes ds) (all_slots tvf ds)
unfolding AreNamedFrom documents_plan written_places all_slots
writes-documents fields window [] nth tvd tvf good named short = Writes-done tvd []
writes-documents fields window (d ∷ ds) nth tvd tvf good named short =
    let a = document_fields_bytes d in
    let b = vectors_bytes d in
    let here = tvd + length a in
    let split = length-append b (flat_map vectors_bytes ds) in
    let now : tvf + length b < 2 ^ 31 = omega (arith, short, split) in
    let later : tvf + length b + length (flat_map vectors_bytes ds) < 2 ^ 31 = omega (arith, short, split) in
    let places = written_places here (tvf + length b) ds in
    let slots = all_slots (tvf + length b) ds in
    Writes-and_then (document_plan (is_within window nth) fields (record { tvd = tvd; tvf = tvf })) (λ x. headed x (documents_plan fields window (suc nth) places)) tvd a (flat_map document_fields_bytes ds) (slots_from tvf d)
    (slots_from tvf d ∷ slots) (writes-document (is_within window nth) fields d tvd tvf (good 0 d (omega arith)) named.0 now)
    (writes-headed (slots_from tvf d) (documents_plan fields window (suc nth) places) here (flat_map document_fields_bytes ds) slots
    (writes-documents fields window ds (suc nth) here (tvf + length b) (λ k x lt. good (suc k) x (omega (arith, lt))) named.1 later))

pub writes-tvd : (fields : List TableField) (window : Window) (ds : List (List StoredVector)) → All AreWritableVectors ds → AreNamedFrom fields window 0 ds → 4 + length (flat_map vectors_bytes ds) < 2 ^ 31
    → Writes (tvd_plan fields window (written_places 4 4 ds)) 0 (tvd_bytes ds) (all_slots 4 ds)
writes-tvd fields window ds good named short =
    Writes-due (format_shape format) (λ _ r. format_conditions r) (λ _ _. documents_plan fields window 0 (written_places 4 4 ds)) 0 (format vector_format) vector_header_bytes (flat_map document_fields_bytes ds) (all_slots 4 ds)
    (vector_format, [], format_fits, sym (append-nil vector_header_bytes), (refl, refl)) refl (writes-documents fields window ds 0 4 4 good named short)
