-- What the written `.tvf` is read as.
use Rattle.std.proofs.Common.{◌≡◌, ℕ, suc, ◌+◌, ◌<◌, true, false, eqb, ltb, List, [], ◌∷◌, length, None, refl, sym, subst, arith}
use Rattle.std.specs.Prelude.{All, FitsSigned}
use Rattle.std.specs.List.{flat_map}
use Rattle.std.specs.Int.{w32}
use Rattle.std.proofs.lemmas.Bool.{le-ltb, eq-eqb}
use Rattle.std.proofs.lemmas.List.{append-nil}
use Rattle.lu_grammar.specs.Records.{first_broken}
use Rattle.lu_grammar.specs.Plans.{Plan, done, and_then}
use Rattle.lu_grammar.proofs.Codecs.{Writes, Writes-due, Writes-done, Writes-and_then}
use Rattle.lu_model.specs.Index.{VectorTerm}
use Rattle.term_vectors.specs.Format.{vector_format, format_shape, headed}
use Rattle.term_vectors.specs.Fields.{VectorPlace}
use Rattle.term_vectors.specs.Vectors.{TvfRecord, format, heading, StoredVector, format_conditions, bits_of_heading, count_of_heading, heading_shape, heading_conditions, terms_plan, vector_plan, vectors_plan, all_plan, tvf_plan}
use Rattle.term_vectors.specs.VectorBytes.{vector_header_bytes, vector_heading_bytes, vector_terms_bytes, vector_bytes, vectors_bytes, tvf_bytes}
use Rattle.term_vectors.specs.Writable.{IsWritableVector, AreWritableVectors}
use Rattle.term_vectors.proofs.WritesTerms.{writes-headed, writes-terms}

-- where written vectors stand, the first at this place
unfoldable pub slots_from : ℕ → List StoredVector → List VectorPlace
slots_from place [] = []
slots_from place (v ∷ vs) = record { field = v.field; place = place } ∷ slots_from (place + length (vector_bytes v)) vs

-- where the vectors of written documents stand
unfoldable pub all_slots : ℕ → List (List StoredVector) → List (List VectorPlace)
all_slots place [] = []
all_slots place (d ∷ ds) = slots_from place d ∷ all_slots (place + length (vectors_bytes d)) ds

-- ---- a vector

heading_good : (place count bits : ℕ) → bits < 4 → first_broken (heading_conditions place place (heading count bits)) ≡ None
heading_good place count bits lt =
    let same : eqb place place ≡ true = eq-eqb place place refl in
    let few : ltb 3 bits ≡ false = le-ltb 3 bits (omega (arith, lt)) in rw (same, few) refl

pub writes-vector : (v : StoredVector) (place : ℕ) → IsWritableVector v → Writes (vector_plan (record { field = v.field; place = place })) place (vector_bytes v) v
writes-vector v place good =
    let n = length v.terms in
    let front = vector_heading_bytes n v.bits in
    let here = place + length front in
    let rest = vector_terms_bytes [] v.terms in
    let last : List VectorTerm → Plan StoredVector TvfRecord = λ terms. done (record { field = v.field; bits = v.bits; terms = terms }) in
    let body : Writes (and_then (terms_plan v.bits n None) last) here rest v =
    subst (λ (x : List ℕ). Writes (and_then (terms_plan v.bits n None) last) here x v) (append-nil rest)
    (Writes-and_then (terms_plan v.bits n None) last here rest [] v.terms v (writes-terms v.bits v.terms None here tt good.rise good.terms) (Writes-done (here + length rest) v)) in
    let fits : v.bits < 256 = omega (arith, good.bits) in
    Writes-due heading_shape (λ at r. heading_conditions place at r)
    (λ _ r. and_then (terms_plan (bits_of_heading r) (count_of_heading r) None) (λ terms. done (record { field = v.field; bits = bits_of_heading r; terms = terms }))) place (heading n v.bits) front rest v
    (n, v.bits ∷ [], good.few, refl, (v.bits, [], fits, refl, (refl, refl))) (heading_good place n v.bits good.bits) body

-- ---- vectors and documents

pub writes-vectors : (vs : List StoredVector) (place : ℕ) → All IsWritableVector vs → Writes (vectors_plan (slots_from place vs)) place (vectors_bytes vs) vs
unfolding vectors_plan slots_from
writes-vectors [] place good = Writes-done place []
writes-vectors (v ∷ vs) place good =
    let at : VectorPlace = record { field = v.field; place = place } in
    let here = place + length (vector_bytes v) in
    Writes-and_then (vector_plan at) (λ x. headed x (vectors_plan (slots_from here vs))) place (vector_bytes v) (vectors_bytes vs) v (v ∷ vs) (writes-vector v place (good 0 v (omega arith)))
    (writes-headed v (vectors_plan (slots_from here vs)) here (vectors_bytes vs) vs (writes-vectors vs here (λ k d lt. good (suc k) d (omega (arith, lt)))))

writes-all : (ds : List (List StoredVector)) (place : ℕ) → All AreWritableVectors ds → Writes (all_plan (all_slots place ds)) place (flat_map vectors_bytes ds) ds
unfolding all_plan all_slots
writes-all [] place good = Writes-done place []
writes-all (d ∷ ds) place good =
    let here = place + length (vectors_bytes d) in
    let one : AreWritableVectors d = good 0 d (omega arith) in
    Writes-and_then (vectors_plan (slots_from place d)) (λ x. headed x (all_plan (all_slots here ds))) place (vectors_bytes d) (flat_map vectors_bytes ds) d (d ∷ ds) (writes-vectors d place one.each)
    (writes-headed d (all_plan (all_slots here ds)) here (flat_map vectors_bytes ds) ds (writes-all ds here (λ k x lt. good (suc k) x (omega (arith, lt)))))

-- the format number is one that four bytes can spell
pub format_fits : FitsSigned w32 vector_format
format_fits = record { sfits = omega arith }

pub writes-tvf : (ds : List (List StoredVector)) → All AreWritableVectors ds → Writes (tvf_plan (all_slots 4 ds)) 0 (tvf_bytes ds) ds
writes-tvf ds good =
    Writes-due (format_shape format) (λ _ r. format_conditions r) (λ _ _. all_plan (all_slots 4 ds)) 0 (format vector_format) vector_header_bytes (flat_map vectors_bytes ds) ds
    (vector_format, [], format_fits, sym (append-nil vector_header_bytes), (refl, refl)) refl (writes-all ds 4 good)
