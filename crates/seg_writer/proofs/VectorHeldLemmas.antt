-- What a writer holds after whole lists of what was announced.
use Rattle.std.proofs.Common.{◌≡◌, refl, sym, subst, ℕ, ◌+◌, ◌<◌, ◌≤◌, ◌++◌, List, [], ◌∷◌, length, append_assoc, arith}
use Rattle.std.specs.List.{fold}
use Rattle.std.proofs.lemmas.List.{append-nil, length-append}
use Rattle.lu_model.specs.Index.{Span, VectorTerm}
use Rattle.lu_model.proofs.Words.{Each}
use Rattle.term_vectors.specs.Vectors.{StoredVector}
use Rattle.term_vectors.specs.VectorWriting.{VectorWriting, no_vectors_written, with_document_begun, with_vector_begun, with_term_begun, with_position, with_span, HoldsDocuments, HoldsOpenDocument, BegunVector, HoldsOpenVector, HoldsOpenTerm, begun_term, with_one_position, with_one_span}
use Rattle.term_vectors.proofs.HeldLemmas.{none-held, document-begun, document-done, vector-begun, vector-done, term-begun, term-done, position-held, span-held}
use Rattle.seg_writer.specs.VectorSteps.{with_positions, with_spans, with_whole_term, with_whole_terms, with_whole_vector, with_whole_vectors, with_whole_document}
use Rattle.seg_writer.proofs.VectorStepLemmas.{IsKept, IsKeptVector}

-- one item more in front of others
push-in : {X : Type 0} (xs : List X) (x : X) (ys : List X) → (xs ++ x ∷ []) ++ ys ≡ xs ++ x ∷ ys
push-in xs x ys = append_assoc xs (x ∷ []) ys

length-push : {X : Type 0} (xs : List X) (x : X) → length (xs ++ x ∷ []) ≡ length xs + 1
length-push xs x = length-append xs (x ∷ [])

module _ (documents : List (List StoredVector)) (count : ℕ) (vectors : List StoredVector) (v : BegunVector) where
  -- ---- positions and spans

  positions-held : (terms : List VectorTerm) (t : VectorTerm) (ps : List ℕ) (w : VectorWriting) → HoldsOpenTerm documents count vectors v terms t w → t.spans ≡ [] → length ps ≤ w.lacks_positions
      → HoldsOpenTerm documents count vectors v terms (record t { positions = t.positions ++ ps }) (with_positions ps w)
  positions-held terms t [] w h none few = subst (λ qs. HoldsOpenTerm documents count vectors v terms (record t { positions = qs }) w) (sym (append-nil t.positions)) h
  positions-held terms t (p ∷ ps) w h none few =
      subst (λ qs. HoldsOpenTerm documents count vectors v terms (record t { positions = qs }) (with_positions ps (with_position p w))) (push-in t.positions p ps)
      (positions-held terms (with_one_position p t) ps (with_position p w) (position-held documents count vectors v terms t p w h none (omega (arith, few))) none (omega (arith, few)))

  spans-held : (terms : List VectorTerm) (t : VectorTerm) (ss : List Span) (w : VectorWriting) → HoldsOpenTerm documents count vectors v terms t w → length ss ≤ w.lacks_spans
      → HoldsOpenTerm documents count vectors v terms (record t { spans = t.spans ++ ss }) (with_spans ss w)
  spans-held terms t [] w h few = subst (λ qs. HoldsOpenTerm documents count vectors v terms (record t { spans = qs }) w) (sym (append-nil t.spans)) h
  spans-held terms t (s ∷ ss) w h few =
      subst (λ qs. HoldsOpenTerm documents count vectors v terms (record t { spans = qs }) (with_spans ss (with_span s w))) (push-in t.spans s ss)
      (spans-held terms (with_one_span s t) ss (with_span s w) (span-held documents count vectors v terms t s w h (omega (arith, few))) (omega (arith, few)))

  -- ---- terms

  term-held : (terms : List VectorTerm) (t : VectorTerm) (w : VectorWriting) → HoldsOpenVector documents count vectors v terms w → 0 < w.lacks_terms → IsKept v.bits t
      → HoldsOpenVector documents count vectors v (terms ++ t ∷ []) (with_whole_term t w)
  term-held terms t w h lacking kept =
      let begun = with_term_begun t.text t.frequency w in
      let a = term-begun documents count vectors v terms t.text t.frequency w h lacking in
      let few : length t.positions ≤ begun.lacks_positions = let own = kept.positions in let due = a.lacks_positions in omega (arith, own, due) in
      let b = positions-held terms (begun_term t.text t.frequency) t.positions begun a refl few in
      let some : length t.spans ≤ (with_positions t.positions begun).lacks_spans = let own = kept.spans in let due = b.lacks_spans in omega (arith, own, due) in
      let c = spans-held terms (record (begun_term t.text t.frequency) { positions = t.positions }) t.spans (with_positions t.positions begun) b some in
      term-done documents count vectors v terms t (with_whole_term t w) c (record {
        positions = let own = kept.positions in let due = c.lacks_positions in omega (arith, own, due);
        spans = let own = kept.spans in let due = c.lacks_spans in omega (arith, own, due);
      })

  terms-held : (terms ts : List VectorTerm) (w : VectorWriting) → HoldsOpenVector documents count vectors v terms w → length terms + length ts ≡ v.count → Each (IsKept v.bits) ts
      → HoldsOpenVector documents count vectors v (terms ++ ts) (with_whole_terms ts w)
  terms-held terms [] w h all kept = subst (λ us. HoldsOpenVector documents count vectors v us w) (sym (append-nil terms)) h
  terms-held terms (t ∷ ts) w h all kept =
      let due = h.lacks in
      let one = length-push terms t in
      subst (λ us. HoldsOpenVector documents count vectors v us (with_whole_terms ts (with_whole_term t w))) (push-in terms t ts)
      (terms-held (terms ++ t ∷ []) ts (with_whole_term t w) (term-held terms t w h (omega (arith, due, all)) kept.0) (omega (arith, one, all)) kept.1)

-- ---- vectors

vector-held : (documents : List (List StoredVector)) (count : ℕ) (vectors : List StoredVector) (v : StoredVector) (w : VectorWriting) → HoldsOpenDocument documents count vectors w → 0 < w.lacks_vectors → IsKeptVector v
    → HoldsOpenDocument documents count (vectors ++ v ∷ []) (with_whole_vector v w)
vector-held documents count vectors v w h lacking kept =
    let begun : BegunVector = record { field = v.field; bits = v.bits; count = length v.terms } in
    let open_vector = vector-begun documents count vectors begun w h lacking in
    vector-done documents count vectors begun v.terms (with_whole_vector v w)
    (terms-held documents count vectors begun [] v.terms (with_vector_begun v.field v.bits (length v.terms) w) open_vector (omega arith) kept) refl

vectors-held : (documents : List (List StoredVector)) (count : ℕ) (vectors vs : List StoredVector) (w : VectorWriting) → HoldsOpenDocument documents count vectors w → length vectors + length vs ≡ count → Each IsKeptVector vs
    → HoldsOpenDocument documents count (vectors ++ vs) (with_whole_vectors vs w)
vectors-held documents count vectors [] w h all kept = subst (λ us. HoldsOpenDocument documents count us w) (sym (append-nil vectors)) h
vectors-held documents count vectors (v ∷ vs) w h all kept =
    let due = h.lacks in
    let one = length-push vectors v in
    subst (λ us. HoldsOpenDocument documents count us (with_whole_vectors vs (with_whole_vector v w))) (push-in vectors v vs)
    (vectors-held documents count (vectors ++ v ∷ []) vs (with_whole_vector v w) (vector-held documents count vectors v w h (omega (arith, due, all)) kept.0) (omega (arith, one, all)) kept.1)

-- ---- documents

-- a writer after documents
abbrev pub with_whole_documents : List (List StoredVector) → VectorWriting → VectorWriting
with_whole_documents documents w = fold (λ v vectors. with_whole_document vectors v) w documents

document-held : (documents : List (List StoredVector)) (vectors : List StoredVector) (w : VectorWriting) → HoldsDocuments documents w → Each IsKeptVector vectors
    → HoldsDocuments (documents ++ vectors ∷ []) (with_whole_document vectors w)
document-held documents vectors w h kept =
    let begun = document-begun documents (length vectors) w h in
    document-done documents (length vectors) vectors (with_whole_document vectors w) (vectors-held documents (length vectors) [] vectors (with_document_begun (length vectors) w) begun (omega arith) kept) refl

pub documents-held : (documents more : List (List StoredVector)) (w : VectorWriting) → HoldsDocuments documents w → Each (Each IsKeptVector) more → HoldsDocuments (documents ++ more) (with_whole_documents more w)
documents-held documents [] w h kept = subst (λ ds. HoldsDocuments ds w) (sym (append-nil documents)) h
documents-held documents (d ∷ more) w h kept =
    subst (λ ds. HoldsDocuments ds (with_whole_documents more (with_whole_document d w))) (push-in documents d more)
    (documents-held (documents ++ d ∷ []) more (with_whole_document d w) (document-held documents d w h kept.0) kept.1)

-- a writer of documents holds them
pub all-held : (documents : List (List StoredVector)) → Each (Each IsKeptVector) documents → HoldsDocuments documents (with_whole_documents documents no_vectors_written)
all-held documents kept = documents-held [] documents no_vectors_written none-held kept
