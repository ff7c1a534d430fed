-- What the written `.tvx` is read as.
use Rattle.std.proofs.Common.{◌≡◌, ℕ, zero, suc, ◌+◌, ◌^◌, ◌<◌, true, false, ltb, List, [], ◌∷◌, ◌++◌, length, Option, Some, None, pos, refl, sym, subst, arith, inl, inr}
use Rattle.std.specs.Prelude.{FitsSigned}
use Rattle.std.specs.List.{flat_map}
use Rattle.std.specs.Int.{w64}
use Rattle.std.proofs.lemmas.Bool.{le-ltb, lt-leb, lt-ltb, cases_lt}
use Rattle.std.proofs.lemmas.List.{append-nil, length-append}
use Rattle.lu_grammar.specs.Parts.{int64, num, groups, spelling}
use Rattle.lu_grammar.specs.Records.{first_broken}
use Rattle.lu_grammar.specs.Plans.{Plan}
use Rattle.lu_grammar.proofs.Codecs.{Writes, Writes-due, Writes-done}
use Rattle.term_vectors.specs.declared.layout.DocumentPlaces.{DocumentPlaces}
use Rattle.lu_types.specs.Stores.{greatest_place}
use Rattle.term_vectors.specs.Format.{vector_format, format_shape, place_of_number, headed}
use Rattle.term_vectors.specs.Places.{TvxRecord, format, places, format_conditions, places_shape, is_misplaced, places_conditions, stated_places, places_plan, tvx_plan}
use Rattle.term_vectors.specs.Vectors.{StoredVector}
use Rattle.term_vectors.specs.VectorBytes.{vector_header_bytes, vectors_bytes, vector_number_bytes, differences_bytes, document_fields_bytes, document_places_bytes, written_places, tvx_bytes}
use Rattle.term_vectors.proofs.WritesTerms.{writes-headed}
use Rattle.term_vectors.proofs.WritesVectors.{format_fits}

known : (n : ℕ) → n < 2 ^ 31 → place_of_number (pos n) ≡ Some n
known n lt = let fits : ltb greatest_place n ≡ false = le-ltb greatest_place n (omega (arith, lt)) in rw fits refl

-- the places of a document, as they stand there
stated_as : ℕ → ℕ → TvxRecord
stated_as a b = places (place_of_number (pos a)) (place_of_number (pos b))

places_good : (before : Option ℕ) (a b : ℕ) → a < 2 ^ 31 → b < 2 ^ 31 → is_misplaced before (Some a) ≡ false → first_broken (places_conditions before (stated_as a b)) ≡ None
unfolding stated_as
places_good before a b low high placed = rw (known a low, known b high, placed) refl

stated_back : (a b : ℕ) → a < 2 ^ 31 → b < 2 ^ 31 → stated_places (stated_as a b) ≡ record { tvd = a; tvf = b }
unfolding stated_as
stated_back a b low high = rw (known a low, known b high) refl

place_fits : (n : ℕ) → n < 2 ^ 31 → FitsSigned w64 (pos n)
place_fits n lt = record { sfits = omega (arith, lt) }

-- a document takes room in `.tvd`
groups_take : (more n : ℕ) → 0 < length (groups more n)
unfolding groups
groups_take zero n = omega arith
groups_take (suc more) n = elim (cases_lt n 128) [
  | inl lt ↦ let t : ltb n 128 ≡ true = lt-ltb n 128 lt in rw t (omega arith)
  | inr le ↦ let f : ltb n 128 ≡ false = le-ltb n 128 le in rw f (omega arith)
]

document_takes : (d : List StoredVector) → 0 < length (document_fields_bytes d)
document_takes d = omega (arith, length-append (spelling num (length d)) (flat_map vector_number_bytes d ++ differences_bytes d), groups_take 4 (length d))

behind : (a b : ℕ) → a < b → is_misplaced (Some a) (Some b) ≡ false
behind a b lt = lt-leb b a lt

writes-places : (ds : List (List StoredVector)) (a b : ℕ) (before : Option ℕ) (place : ℕ) → is_misplaced before (Some a) ≡ false → a + length (flat_map document_fields_bytes ds) < 2 ^ 31 → b + length (flat_map vectors_bytes ds) < 2 ^ 31
    → Writes (places_plan (length ds) before) place (flat_map document_places_bytes (written_places a b ds)) (written_places a b ds)
unfolding places_plan written_places stated_as
writes-places [] a b before place placed low high = Writes-done place []
writes-places (d ∷ ds) a b before place placed low high =
    let p : DocumentPlaces = record { tvd = a; tvf = b } in
    let front = document_places_bytes p in
    let here = place + length front in
    let m = a + length (document_fields_bytes d) in
    let n = b + length (vectors_bytes d) in
    let rest = flat_map document_places_bytes (written_places m n ds) in
    let fields = length-append (document_fields_bytes d) (flat_map document_fields_bytes ds) in
    let vectors = length-append (vectors_bytes d) (flat_map vectors_bytes ds) in
    let a_low : a < 2 ^ 31 = omega (arith, low) in
    let b_low : b < 2 ^ 31 = omega (arith, high) in
    let m_low : m + length (flat_map document_fields_bytes ds) < 2 ^ 31 = omega (arith, low, fields) in
    let n_low : n + length (flat_map vectors_bytes ds) < 2 ^ 31 = omega (arith, high, vectors) in
    let next : is_misplaced (Some a) (Some m) ≡ false = behind a m (omega (arith, document_takes d)) in
    let after : DocumentPlaces → Plan (List DocumentPlaces) TvxRecord = λ q. headed q (places_plan (length ds) (Some q.tvd)) in
    let tail : Writes (after (stated_places (stated_as a b))) here rest (p ∷ written_places m n ds) =
    subst (λ (q : DocumentPlaces). Writes (after q) here rest (p ∷ written_places m n ds)) (sym (stated_back a b a_low b_low))
    (writes-headed p (places_plan (length ds) (Some a)) here rest (written_places m n ds) (writes-places ds m n (Some a) here next m_low n_low)) in
    Writes-due places_shape (λ _ r. places_conditions before r) (λ _ r. headed (stated_places r) (places_plan (length ds) (Some (stated_places r).tvd))) place (stated_as a b) front rest (p ∷ written_places m n ds)
    (pos a, spelling int64 (pos b), place_fits a a_low, refl, (pos b, [], place_fits b b_low, sym (append-nil (spelling int64 (pos b))), (refl, refl))) (places_good before a b a_low b_low placed) tail

pub writes-tvx : (ds : List (List StoredVector)) → 4 + length (flat_map document_fields_bytes ds) < 2 ^ 31 → 4 + length (flat_map vectors_bytes ds) < 2 ^ 31
    → Writes (tvx_plan (length ds)) 0 (tvx_bytes ds) (written_places 4 4 ds)
writes-tvx ds low high =
    Writes-due (format_shape format) (λ _ r. format_conditions r) (λ _ _. places_plan (length ds) None) 0 (format vector_format) vector_header_bytes (flat_map document_places_bytes (written_places 4 4 ds)) (written_places 4 4 ds)
    (vector_format, [], format_fits, sym (append-nil vector_header_bytes), (refl, refl)) refl (writes-places ds 4 4 None 4 refl low high)
