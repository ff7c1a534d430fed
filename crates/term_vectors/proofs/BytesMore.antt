-- The bytes of one thing more: a position, a span, a term, a vector, a document.
use Rattle.std.proofs.Common.{◌≡◌, ℕ, suc, ◌+◌, ◌-◌, List, [], ◌∷◌, ◌++◌, length, Some, refl, sym, ap, ◌∙◌, append_assoc, arith}
use Rattle.std.specs.List.{flat_map}
use Rattle.std.proofs.lemmas.Grind.{flat_map-append}
use Rattle.std.proofs.lemmas.List.{append-nil, length-append}
use Rattle.lu_grammar.specs.Parts.{vint, vlong, spelling}
use Rattle.lu_model.specs.Index.{Span, VectorTerm}
use Rattle.term_vectors.specs.declared.layout.DocumentPlaces.{DocumentPlaces}
use Rattle.lu_types.specs.Stores.{header_length}
use Rattle.term_vectors.specs.Vectors.{StoredVector}
use Rattle.term_vectors.specs.VectorBytes.{vector_header_bytes, vector_positions_bytes, span_bytes, vector_spans_bytes, vector_term_bytes, vector_terms_bytes, vector_bytes, vectors_bytes, tvf_bytes, vector_length_bytes, differences_bytes, document_fields_bytes, tvd_bytes, document_places_bytes, written_places, tvx_bytes}
use Rattle.term_vectors.specs.VectorWriting.{difference_from, begun_places_bytes, vector_start, last_start, last_vector_text, last_vector_position, last_vector_end}

-- a list with one more
pub flat_map-more : {X : Type 0} (f : X → List ℕ) (xs : List X) (x : X) → flat_map f (xs ++ x ∷ []) ≡ flat_map f xs ++ f x
flat_map-more f xs x = flat_map-append f xs (x ∷ []) ∙ ap (λ (t : List ℕ). flat_map f xs ++ t) (append-nil (f x))

pub length-more : {X : Type 0} (xs : List X) (x : X) → length (xs ++ x ∷ []) ≡ suc (length xs)
length-more xs x = omega (arith, length-append xs (x ∷ []))

-- ---- a term

pub positions-more : (last : ℕ) (ps : List ℕ) (p : ℕ) → vector_positions_bytes last (ps ++ p ∷ []) ≡ vector_positions_bytes last ps ++ spelling vint (p - last_vector_position last ps)
unfolding vector_positions_bytes last_vector_position
positions-more last [] p = append-nil (spelling vint (p - last))
positions-more last (q ∷ ps) p = ap (λ (t : List ℕ). spelling vint (q - last) ++ t) (positions-more q ps p) ∙ sym (append_assoc (spelling vint (q - last)) (vector_positions_bytes q ps) (spelling vint (p - last_vector_position q ps)))

pub last_position-more : (last : ℕ) (ps : List ℕ) (p : ℕ) → last_vector_position last (ps ++ p ∷ []) ≡ p
unfolding last_vector_position
last_position-more last [] p = refl
last_position-more last (q ∷ ps) p = last_position-more q ps p

pub spans-more : (last : ℕ) (ss : List Span) (s : Span) → vector_spans_bytes last (ss ++ s ∷ []) ≡ vector_spans_bytes last ss ++ span_bytes (last_vector_end last ss) s
unfolding vector_spans_bytes last_vector_end
spans-more last [] s = append-nil (span_bytes last s)
spans-more last (r ∷ ss) s = ap (λ (t : List ℕ). span_bytes last r ++ t) (spans-more r.end ss s) ∙ sym (append_assoc (span_bytes last r) (vector_spans_bytes r.end ss) (span_bytes (last_vector_end r.end ss) s))

pub last_end-more : (last : ℕ) (ss : List Span) (s : Span) → last_vector_end last (ss ++ s ∷ []) ≡ s.end
unfolding last_vector_end
last_end-more last [] s = refl
last_end-more last (r ∷ ss) s = last_end-more r.end ss s

-- ---- a vector

pub terms-more : (before : List ℕ) (ts : List VectorTerm) (t : VectorTerm) → vector_terms_bytes before (ts ++ t ∷ []) ≡ vector_terms_bytes before ts ++ vector_term_bytes (last_vector_text before ts) t
unfolding vector_terms_bytes last_vector_text
terms-more before [] t = append-nil (vector_term_bytes before t)
terms-more before (u ∷ ts) t =
    ap (λ (l : List ℕ). vector_term_bytes before u ++ l) (terms-more u.text ts t)
    ∙ sym (append_assoc (vector_term_bytes before u) (vector_terms_bytes u.text ts) (vector_term_bytes (last_vector_text u.text ts) t))

pub last_text-more : (before : List ℕ) (ts : List VectorTerm) (t : VectorTerm) → last_vector_text before (ts ++ t ∷ []) ≡ t.text
unfolding last_vector_text
last_text-more before [] t = refl
last_text-more before (u ∷ ts) t = last_text-more u.text ts t

-- ---- a document

pub differences-more : (vs : List StoredVector) (v : StoredVector) → differences_bytes (vs ++ v ∷ []) ≡ flat_map vector_length_bytes vs
unfolding differences_bytes
differences-more [] v = refl
differences-more (w ∷ []) v = refl
differences-more (w ∷ u ∷ vs) v = ap (λ (t : List ℕ). vector_length_bytes w ++ t) (differences-more (u ∷ vs) v)

pub last_start-more : (documents : List (List StoredVector)) (front vs : List StoredVector) (v : StoredVector) → last_start documents front (vs ++ v ∷ []) ≡ Some (vector_start documents (front ++ vs))
unfolding last_start
last_start-more documents front [] v = ap (λ (t : List StoredVector). Some (vector_start documents t)) (sym (append-nil front))
last_start-more documents front (w ∷ []) v = refl
last_start-more documents front (w ∷ u ∷ vs) v =
    last_start-more documents (front ++ w ∷ []) (u ∷ vs) v ∙ ap (λ (t : List StoredVector). Some (vector_start documents t)) (append_assoc front (w ∷ []) (u ∷ vs))

-- how far the next vector stands behind the last
far_is : (documents : List (List StoredVector)) (front : List StoredVector) (v : StoredVector) → vector_start documents (front ++ v ∷ []) - vector_start documents front ≡ length (vector_bytes v)
far_is documents front v =
    let bytes : vectors_bytes (front ++ v ∷ []) ≡ vectors_bytes front ++ vector_bytes v = flat_map-more vector_bytes front v in
    omega (arith, ap (λ (t : List ℕ). length (tvf_bytes documents ++ t)) bytes, length-append (tvf_bytes documents) (vectors_bytes front ++ vector_bytes v), length-append (vectors_bytes front) (vector_bytes v), length-append (tvf_bytes documents) (vectors_bytes front))

-- the differences of a document, and that of the vector behind it
pub differences-all : (documents : List (List StoredVector)) (front vs : List StoredVector) → differences_bytes vs ++ difference_from (last_start documents front vs) (vector_start documents (front ++ vs)) ≡ flat_map vector_length_bytes vs
unfolding differences_bytes last_start
differences-all documents front [] = refl
differences-all documents front (v ∷ []) = ap (λ (n : ℕ). spelling vlong n) (far_is documents front v) ∙ sym (append-nil (vector_length_bytes v))
differences-all documents front (v ∷ w ∷ vs) =
    let start = last_start documents (front ++ v ∷ []) (w ∷ vs) in
    append_assoc (vector_length_bytes v) (differences_bytes (w ∷ vs)) (difference_from start (vector_start documents (front ++ v ∷ w ∷ vs)))
    ∙ ap (λ (t : List StoredVector). vector_length_bytes v ++ (differences_bytes (w ∷ vs) ++ difference_from start (vector_start documents t))) (sym (append_assoc front (v ∷ []) (w ∷ vs)))
    ∙ ap (λ (t : List ℕ). vector_length_bytes v ++ t) (differences-all documents (front ++ v ∷ []) (w ∷ vs))

-- ---- a file

pub tvd-more : (documents : List (List StoredVector)) (d : List StoredVector) → tvd_bytes (documents ++ d ∷ []) ≡ tvd_bytes documents ++ document_fields_bytes d
tvd-more documents d =
    ap (λ (t : List ℕ). vector_header_bytes ++ t) (flat_map-more document_fields_bytes documents d) ∙ sym (append_assoc vector_header_bytes (flat_map document_fields_bytes documents) (document_fields_bytes d))

pub tvf-more : (documents : List (List StoredVector)) (d : List StoredVector) → tvf_bytes (documents ++ d ∷ []) ≡ tvf_bytes documents ++ vectors_bytes d
tvf-more documents d = ap (λ (t : List ℕ). vector_header_bytes ++ t) (flat_map-more vectors_bytes documents d) ∙ sym (append_assoc vector_header_bytes (flat_map vectors_bytes documents) (vectors_bytes d))

-- the places of a document behind others
places-more : (tvd tvf : ℕ) (documents : List (List StoredVector)) (d : List StoredVector) → written_places tvd tvf (documents ++ d ∷ [])
    ≡ written_places tvd tvf documents ++ record { tvd = tvd + length (flat_map document_fields_bytes documents); tvf = tvf + length (flat_map vectors_bytes documents) } ∷ []
unfolding written_places
places-more tvd tvf [] d =
    let one : ℕ → ℕ → List DocumentPlaces = λ m n. record { tvd = m; tvf = n } ∷ [] in
    ap (λ (m : ℕ). one m tvf) (let e : tvd ≡ tvd + 0 = omega arith in e) ∙ ap (λ (n : ℕ). one (tvd + 0) n) (let e : tvf ≡ tvf + 0 = omega arith in e)
places-more tvd tvf (e ∷ documents) d =
    let a = document_fields_bytes e in
    let b = vectors_bytes e in
    let here : DocumentPlaces = record { tvd = tvd; tvf = tvf } in
    let one : ℕ → ℕ → List DocumentPlaces = λ m n. here ∷ (written_places (tvd + length a) (tvf + length b) documents ++ record { tvd = m; tvf = n } ∷ []) in
    ap (λ (t : List DocumentPlaces). here ∷ t) (places-more (tvd + length a) (tvf + length b) documents d)
    ∙ ap (λ (m : ℕ). one m (tvf + length b + length (flat_map vectors_bytes documents))) (omega (arith, length-append a (flat_map document_fields_bytes documents)))
    ∙ ap (λ (n : ℕ). one (tvd + length (a ++ flat_map document_fields_bytes documents)) n) (omega (arith, length-append b (flat_map vectors_bytes documents)))

header_is : length vector_header_bytes ≡ header_length
header_is = refl

pub tvx-more : (documents : List (List StoredVector)) (d : List StoredVector) → tvx_bytes (documents ++ d ∷ []) ≡ begun_places_bytes documents
tvx-more documents d =
    let front = flat_map document_places_bytes (written_places header_length header_length documents) in
    let at : ℕ → ℕ → List ℕ = λ m n. vector_header_bytes ++ (front ++ document_places_bytes (record { tvd = m; tvf = n })) in
    let tvd = flat_map document_fields_bytes documents in
    let tvf = flat_map vectors_bytes documents in
    ap (λ (t : List DocumentPlaces). vector_header_bytes ++ flat_map document_places_bytes t) (places-more header_length header_length documents d)
    ∙ ap (λ (t : List ℕ). vector_header_bytes ++ t) (flat_map-more document_places_bytes (written_places header_length header_length documents) (record { tvd = header_length + length tvd; tvf = header_length + length tvf }))
    ∙ ap (λ (m : ℕ). at m (header_length + length tvf)) (omega (arith, length-append vector_header_bytes tvd, header_is))
    ∙ ap (λ (n : ℕ). at (length (tvd_bytes documents)) n) (omega (arith, length-append vector_header_bytes tvf, header_is))
    ∙ sym (append_assoc vector_header_bytes front (document_places_bytes (record { tvd = length (tvd_bytes documents); tvf = length (tvf_bytes documents) })))
