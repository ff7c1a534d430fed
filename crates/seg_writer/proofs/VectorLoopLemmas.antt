-- A writer of vectors after the first of what a loop hands it.
use Rattle.std.proofs.Common.{◌≡◌, refl, ap, sym, ◌∙◌, subst, ℕ, ◌+◌, ◌<◌, ◌≤◌, ◌++◌, List, [], ◌∷◌, length, map, take, get_or, true, false, cond, arith}
use Rattle.std.specs.Prelude.{filter}
use Rattle.std.proofs.lemmas.List.{length-map, length-take, map_more}
use Rattle.std.proofs.lemmas.List.Sums.{fold_push}
use Rattle.lu_types.specs.Bits.{has_bit}
use Rattle.lu_types.specs.Tables.{TableField}
use Rattle.lu_types.specs.declared.document.Document.{Document}
use Rattle.lu_types.specs.declared.document.IndexedField.{IndexedField}
use Rattle.lu_types.specs.declared.document.Token.{Token}
use Rattle.lu_model.specs.Contents.{field_number, vector_of}
use Rattle.lu_model.specs.Index.{Span}
use Rattle.lu_model.proofs.Words.{Each}
use Rattle.term_vectors.specs.Format.{bit_positions, bit_offsets}
use Rattle.term_vectors.specs.Vectors.{kept_count}
use Rattle.term_vectors.specs.VectorWriting.{VectorWriting, HoldsDocuments, IsTermWhole, IsVectorWhole, no_vectors_written, with_term_begun}
use Rattle.seg_writer.specs.declared.inverted.Inverted.{Inverted}
use Rattle.seg_writer.specs.declared.inverted.Use.{Use}
use Rattle.seg_writer.specs.Entries.{no_token, tokens_at}
use Rattle.seg_writer.specs.VectorSteps.{with_positions, with_spans, with_whole_terms, with_whole_vectors, with_whole_document, kept_positions, kept_spans, term_of_uses, token_span, has_field_vector, numbered_vector, vectors_of_fields}
use Rattle.seg_writer.proofs.VectorFieldLemmas.{documents-kept, fields-kept, vectors_by_fields}
use Rattle.seg_writer.proofs.VectorHeldLemmas.{all-held, with_whole_documents}
use Rattle.seg_writer.proofs.VectorStepLemmas.{IsKept, HasTerms, HasVectors, positions-lack, spans-lack, terms-lack, vectors-lack}

-- so many of the first items
first-many : {X Y : Type 0} (view : X → Y) (xs : List X) (i : ℕ) → i ≤ length xs → length (map view (take i xs)) ≡ i
first-many view xs i le = length-map (take i xs) view ∙ (let size = length-take i xs in omega (arith, size, le))

-- the position, and the place, of the token of a use
abbrev pub position_at : List Token → Use → ℕ
position_at tokens here = (get_or tokens here.token no_token).position

abbrev pub span_at : List Token → Use → Span
span_at tokens here = token_span (get_or tokens here.token no_token)

positions-of-uses : (tokens : List Token) (uses : List Use) → map (λ (t : Token). t.position) (tokens_at tokens uses) ≡ map (position_at tokens) uses
positions-of-uses tokens [] = refl
positions-of-uses tokens (u ∷ uses) = ap (λ ps. position_at tokens u ∷ ps) (positions-of-uses tokens uses)

spans-of-uses : (tokens : List Token) (uses : List Use) → map token_span (tokens_at tokens uses) ≡ map (span_at tokens) uses
spans-of-uses tokens [] = refl
spans-of-uses tokens (u ∷ uses) = ap (λ ss. span_at tokens u ∷ ss) (spans-of-uses tokens uses)

-- as many positions, and spans, as are kept
length-kept_positions : (bits : ℕ) (tokens : List Token) (uses : List Use) → length (kept_positions bits (tokens_at tokens uses)) ≡ kept_count bit_positions bits (length uses)
length-kept_positions bits tokens uses = elim (has_bit bit_positions bits) as (λ b. length (cond b (map (λ (t : Token). t.position) (tokens_at tokens uses)) []) ≡ cond b (length uses) 0) [
  | true ↦ ap length (positions-of-uses tokens uses) ∙ length-map uses (position_at tokens)
  | false ↦ refl
]

length-kept_spans : (bits : ℕ) (tokens : List Token) (uses : List Use) → length (kept_spans bits (tokens_at tokens uses)) ≡ kept_count bit_offsets bits (length uses)
length-kept_spans bits tokens uses = elim (has_bit bit_offsets bits) as (λ b. length (cond b (map token_span (tokens_at tokens uses)) []) ≡ cond b (length uses) 0) [
  | true ↦ ap length (spans-of-uses tokens uses) ∙ length-map uses (span_at tokens)
  | false ↦ refl
]

-- what lacks where the first of the uses were handed
module _ (bits : ℕ) (tokens : List Token) (uses : List Use) (k : ℕ) (start w : VectorWriting) where
  pub positions-lacking : has_bit bit_positions bits ≡ true → k < length uses → start.lacks_positions ≡ kept_count bit_positions bits (length uses) → w ≡ with_positions (map (position_at tokens) (take k uses)) start → 0 < w.lacks_positions
  positions-lacking kept lt lacks was =
      let some = lacks ∙ ap (λ b. cond b (length uses) 0) kept in
      let size = first-many (position_at tokens) uses k (omega (arith, lt)) in
      let left = ap (λ (v : VectorWriting). v.lacks_positions) was ∙ (positions-lack (map (position_at tokens) (take k uses)) start).positions in
      omega (arith, some, size, left, lt)

  pub spans-lacking : has_bit bit_offsets bits ≡ true → k < length uses → start.lacks_spans ≡ kept_count bit_offsets bits (length uses) → w ≡ with_spans (map (span_at tokens) (take k uses)) start
      → (0 < w.lacks_spans) × (w.lacks_positions ≡ start.lacks_positions)
  spans-lacking kept lt lacks was =
      let some = lacks ∙ ap (λ b. cond b (length uses) 0) kept in
      let size = first-many (span_at tokens) uses k (omega (arith, lt)) in
      let now = spans-lack (map (span_at tokens) (take k uses)) start in
      let left = ap (λ (v : VectorWriting). v.lacks_spans) was ∙ now.spans in
      (omega (arith, some, size, left, lt), ap (λ (v : VectorWriting). v.lacks_positions) was ∙ now.positions)

-- a term that is begun, with its positions
pub spans-due : (bits : ℕ) (tokens : List Token) (t : Inverted) (w m n : VectorWriting) → w.bits ≡ bits → m ≡ with_term_begun t.text.now (length t.uses.now) w
    → n ≡ with_positions (kept_positions bits (tokens_at tokens t.uses.now)) m → (n.lacks_positions ≡ 0) × (n.lacks_spans ≡ kept_count bit_offsets bits (length t.uses.now))
spans-due bits tokens t w m n same begun handed =
    let ps = kept_positions bits (tokens_at tokens t.uses.now) in
    let now = positions-lack ps m in
    let due : m.lacks_positions ≡ kept_count bit_positions bits (length t.uses.now) = ap (λ (v : VectorWriting). v.lacks_positions) begun ∙ ap (λ b. kept_count bit_positions b (length t.uses.now)) same in
    let size = length-kept_positions bits tokens t.uses.now in
    let left = ap (λ (v : VectorWriting). v.lacks_positions) handed ∙ now.positions in (
      omega (arith, due, size, left),
      ap (λ (v : VectorWriting). v.lacks_spans) handed ∙ now.spans ∙ ap (λ (v : VectorWriting). v.lacks_spans) begun ∙ ap (λ b. kept_count bit_offsets b (length t.uses.now)) same,
    )

-- ---- terms

-- what is handed of a text is what is kept
kept-of-uses : (bits : ℕ) (tokens : List Token) (t : Inverted) → IsKept bits (term_of_uses bits tokens t)
kept-of-uses bits tokens t = record { positions = length-kept_positions bits tokens t.uses.now; spans = length-kept_spans bits tokens t.uses.now }

each-kept : (bits : ℕ) (tokens : List Token) (ts : List Inverted) → Each (IsKept bits) (map (term_of_uses bits tokens) ts)
each-kept bits tokens [] = tt
each-kept bits tokens (t ∷ ts) = (kept-of-uses bits tokens t, each-kept bits tokens ts)

-- between the terms of a vector
pub terms-between : (bits : ℕ) (tokens : List Token) (ts : List Inverted) (k : ℕ) (start w : VectorWriting) → k ≤ length ts → start.bits ≡ bits → IsTermWhole start → w ≡ with_whole_terms (map (term_of_uses bits tokens) (take k ts)) start
    → HasTerms k start w
terms-between bits tokens ts k start w le same whole was =
    let handed = map (term_of_uses bits tokens) (take k ts) in
    subst (λ n. HasTerms n start w) (first-many (term_of_uses bits tokens) ts k le)
    (subst (HasTerms (length handed) start) (sym was) (terms-lack handed start (subst (λ b. Each (IsKept b) handed) (sym same) (each-kept bits tokens (take k ts))) whole))

-- ---- vectors

-- between the vectors of a document
pub vectors-between : (table : List TableField) (fields : List IndexedField) (k : ℕ) (start w : VectorWriting) → IsVectorWhole start → w ≡ with_whole_vectors (vectors_of_fields table (take k fields)) start
    → HasVectors (length (filter has_field_vector (take k fields))) start w
vectors-between table fields k start w whole was =
    let handed = vectors_of_fields table (take k fields) in
    subst (λ n. HasVectors n start w) (length-map (filter has_field_vector (take k fields)) (λ (f : IndexedField). numbered_vector (field_number f.field table) (vector_of f)))
    (subst (HasVectors (length handed) start) (sym was) (vectors-lack handed start (fields-kept table (take k fields)) whole))

-- ---- documents

-- one document more
pub documents-next : (table : List TableField) (docs : List Document) (i : ℕ) (doc : Document) → i < length docs → doc ≡ get_or docs i doc → (start w new : VectorWriting)
    → w ≡ with_whole_documents (vectors_by_fields table (take i docs)) start → new ≡ with_whole_document (vectors_of_fields table doc.indexed) w → new ≡ with_whole_documents (vectors_by_fields table (take (i + 1) docs)) start
documents-next table docs i doc lt is start w new was adds =
    let view = λ (d : Document). vectors_of_fields table d.indexed in
    adds ∙ ap (with_whole_document (view doc)) was ∙ sym (fold_push (λ v vectors. with_whole_document vectors v) start (vectors_by_fields table (take i docs)) (view doc))
    ∙ ap (λ ds. with_whole_documents ds start) (ap (λ d. vectors_by_fields table (take i docs) ++ view d ∷ []) is ∙ sym (map_more view docs i doc lt))

pub documents-between : (table : List TableField) (docs : List Document) (w : VectorWriting) → w ≡ with_whole_documents (vectors_by_fields table docs) no_vectors_written → HoldsDocuments (vectors_by_fields table docs) w
documents-between table docs w was = subst (HoldsDocuments (vectors_by_fields table docs)) (sym was) (all-held (vectors_by_fields table docs) (documents-kept table docs))
