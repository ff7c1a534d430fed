-- What is written of vectors are bytes.
use Rattle.std.proofs.Common.{ℕ, suc, ◌-◌, ◌^◌, ◌<◌, ◌≤◌, List, [], ◌∷◌, ◌++◌, length, drop, pos, get_or, arith, length-drop}
use Rattle.std.specs.Prelude.{All}
use Rattle.std.specs.List.{flat_map}
use Rattle.std.proofs.lemmas.List.{length-append}
use Rattle.lu_grammar.specs.Bytes.{IsBytes}
use Rattle.lu_grammar.specs.Parts.{int32, int64, vint, num, vlong, spelling}
use Rattle.lu_grammar.proofs.Codecs.{IsBytes-nil, IsBytes-cons, IsBytes-append, IsBytes-flat_map, IsBytes-spelling, IsBytes-eight, IsBytes-utf8}
use Rattle.lu_grammar.proofs.Parts.{IsBytes-drop}
use Rattle.lu_model.specs.Index.{Span, VectorTerm}
use Rattle.lu_model.specs.Valid.{IsSmall, IsVectorTerm}
use Rattle.term_vectors.specs.declared.layout.DocumentPlaces.{DocumentPlaces}
use Rattle.term_vectors.specs.Format.{vector_format}
use Rattle.term_vectors.specs.Vectors.{StoredVector}
use Rattle.term_vectors.specs.VectorBytes.{vector_header_bytes, vector_positions_bytes, start_delta, span_bytes, vector_spans_bytes, shared_length, term_front_bytes, vector_term_bytes, vector_terms_bytes, vector_heading_bytes, vector_bytes, vectors_bytes, tvf_bytes, vector_number_bytes, vector_length_bytes, differences_bytes, document_fields_bytes, tvd_bytes, document_places_bytes, written_places, tvx_bytes}
use Rattle.term_vectors.specs.Writable.{IsWritableVector, AreWritableVectors}
use Rattle.term_vectors.proofs.SharedLemmas.{shared-within}
use Rattle.term_vectors.proofs.WritesVectors.{format_fits}

of_header : IsBytes vector_header_bytes
of_header = IsBytes-spelling int32 vector_format format_fits

-- ---- `.tvf`

of_positions : (ps : List ℕ) (last : ℕ) → All IsSmall ps → IsBytes (vector_positions_bytes last ps)
unfolding vector_positions_bytes
of_positions [] last low = IsBytes-nil
of_positions (p ∷ ps) last low =
    let one : p < 2 ^ 31 = low 0 p (omega arith) in
    let fits : p - last < 2 ^ 32 = omega (arith, one) in
    IsBytes-append (spelling vint (p - last)) (vector_positions_bytes p ps) (IsBytes-spelling vint (p - last) fits) (of_positions ps p (λ k d lt. low (suc k) d (omega (arith, lt))))

of_spans : (ss : List Span) (last : ℕ) → All (λ span. (span.start ≤ span.end) × IsSmall span.end) ss → IsBytes (vector_spans_bytes last ss)
unfolding vector_spans_bytes
of_spans [] last within = IsBytes-nil
of_spans (s ∷ ss) last within =
    let one = within 0 s (omega arith) in
    let far : start_delta last s.start < 2 ^ 32 = omega arith in
    let long : s.end - s.start < 2 ^ 31 = omega (arith, one.1) in
    IsBytes-append (span_bytes last s) (vector_spans_bytes s.end ss)
    (IsBytes-append (spelling vint (start_delta last s.start)) (spelling num (s.end - s.start)) (IsBytes-spelling vint (start_delta last s.start) far) (IsBytes-spelling num (s.end - s.start) long))
    (of_spans ss s.end (λ k d lt. within (suc k) d (omega (arith, lt))))

of_term : (bits : ℕ) (before : List ℕ) (t : VectorTerm) → IsVectorTerm bits t → IsBytes (vector_term_bytes before t)
of_term bits before t good =
    let p = shared_length before t.text in
    let suffix = drop p t.text in
    let long : p < 2 ^ 31 = omega (arith, (shared-within before t.text).1, good.text.1) in
    let rest : length suffix < 2 ^ 31 = omega (arith, length-drop p t.text, good.text.1) in
    IsBytes-append (term_front_bytes before t.text t.frequency) (vector_positions_bytes 0 t.positions ++ vector_spans_bytes 0 t.spans)
    (IsBytes-append (spelling num p) (spelling num (length suffix) ++ (suffix ++ spelling num t.frequency)) (IsBytes-spelling num p long)
    (IsBytes-append (spelling num (length suffix)) (suffix ++ spelling num t.frequency) (IsBytes-spelling num (length suffix) rest)
    (IsBytes-append suffix (spelling num t.frequency) (IsBytes-drop p t.text (IsBytes-utf8 t.text good.text.0)) (IsBytes-spelling num t.frequency good.few))))
    (IsBytes-append (vector_positions_bytes 0 t.positions) (vector_spans_bytes 0 t.spans) (of_positions t.positions 0 good.low) (of_spans t.spans 0 good.within))

of_terms : (bits : ℕ) (ts : List VectorTerm) (before : List ℕ) → All (IsVectorTerm bits) ts → IsBytes (vector_terms_bytes before ts)
unfolding vector_terms_bytes
of_terms bits [] before good = IsBytes-nil
of_terms bits (t ∷ ts) before good =
    IsBytes-append (vector_term_bytes before t) (vector_terms_bytes t.text ts) (of_term bits before t (good 0 t (omega arith))) (of_terms bits ts t.text (λ k d lt. good (suc k) d (omega (arith, lt))))

of_vector : (v : StoredVector) → IsWritableVector v → IsBytes (vector_bytes v)
of_vector v good =
    let n = length v.terms in
    let fits : v.bits < 256 = omega (arith, good.bits) in
    IsBytes-append (vector_heading_bytes n v.bits) (vector_terms_bytes [] v.terms)
    (IsBytes-append (spelling num n) (v.bits ∷ []) (IsBytes-spelling num n good.few) (IsBytes-cons v.bits [] fits IsBytes-nil)) (of_terms v.bits v.terms [] good.terms)

of_vectors : (vs : List StoredVector) → All IsWritableVector vs → IsBytes (vectors_bytes vs)
of_vectors vs good = IsBytes-flat_map vector_bytes vs (λ k v lt. of_vector (get_or vs k v) (good k v lt))

pub of_tvf : (ds : List (List StoredVector)) → All AreWritableVectors ds → IsBytes (tvf_bytes ds)
of_tvf ds good = IsBytes-append vector_header_bytes (flat_map vectors_bytes ds) of_header (IsBytes-flat_map vectors_bytes ds (λ k d lt. of_vectors (get_or ds k d) (good k d lt).each))

-- ---- `.tvd`

of_differences : (vs : List StoredVector) → length (vectors_bytes vs) < 2 ^ 31 → IsBytes (differences_bytes vs)
unfolding differences_bytes
of_differences [] short = IsBytes-nil
of_differences (v ∷ []) short = IsBytes-nil
of_differences (v ∷ w ∷ vs) short =
    let split = length-append (vector_bytes v) (vectors_bytes (w ∷ vs)) in
    let fits : length (vector_bytes v) < 2 ^ 63 = omega (arith, short, split) in
    let later : length (vectors_bytes (w ∷ vs)) < 2 ^ 31 = omega (arith, short, split) in
    IsBytes-append (vector_length_bytes v) (differences_bytes (w ∷ vs)) (IsBytes-spelling vlong (length (vector_bytes v)) fits) (of_differences (w ∷ vs) later)

of_fields : (vs : List StoredVector) → AreWritableVectors vs → length (vectors_bytes vs) < 2 ^ 31 → IsBytes (document_fields_bytes vs)
of_fields vs good short =
    let numbers = flat_map vector_number_bytes vs in
    IsBytes-append (spelling num (length vs)) (numbers ++ differences_bytes vs) (IsBytes-spelling num (length vs) good.few)
    (IsBytes-append numbers (differences_bytes vs) (IsBytes-flat_map vector_number_bytes vs (λ k v lt. IsBytes-spelling num (get_or vs k v).field (good.each k v lt).field)) (of_differences vs short))

of_all_fields : (ds : List (List StoredVector)) → All AreWritableVectors ds → length (flat_map vectors_bytes ds) < 2 ^ 31 → IsBytes (flat_map document_fields_bytes ds)
of_all_fields [] good short = IsBytes-nil
of_all_fields (d ∷ ds) good short =
    let split = length-append (vectors_bytes d) (flat_map vectors_bytes ds) in
    let now : length (vectors_bytes d) < 2 ^ 31 = omega (arith, short, split) in
    let later : length (flat_map vectors_bytes ds) < 2 ^ 31 = omega (arith, short, split) in
    IsBytes-append (document_fields_bytes d) (flat_map document_fields_bytes ds) (of_fields d (good 0 d (omega arith)) now) (of_all_fields ds (λ k x lt. good (suc k) x (omega (arith, lt))) later)

pub of_tvd : (ds : List (List StoredVector)) → All AreWritableVectors ds → length (flat_map vectors_bytes ds) < 2 ^ 31 → IsBytes (tvd_bytes ds)
of_tvd ds good short = IsBytes-append vector_header_bytes (flat_map document_fields_bytes ds) of_header (of_all_fields ds good short)

-- ---- `.tvx`

-- a place, however great
of_place : (p : ℕ) → IsBytes (spelling int64 (pos p))
of_place p = IsBytes-eight _

of_places : (at : DocumentPlaces) → IsBytes (document_places_bytes at)
of_places at = IsBytes-append (spelling int64 (pos at.tvd)) (spelling int64 (pos at.tvf)) (of_place at.tvd) (of_place at.tvf)

pub of_tvx : (ds : List (List StoredVector)) → IsBytes (tvx_bytes ds)
of_tvx ds =
    let places = written_places 4 4 ds in
    IsBytes-append vector_header_bytes (flat_map document_places_bytes places) of_header (IsBytes-flat_map document_places_bytes places (λ k p lt. of_places (get_or places k p)))
