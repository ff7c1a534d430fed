-- What a merge hands to a writer of vectors, one more.
use Rattle.std.proofs.Common.{◌≡◌, refl, ap, sym, ◌∙◌, subst, ℕ, ◌+◌, ◌-◌, ◌<◌, ◌^◌, ◌++◌, Bool, true, false, cond, List, [], ◌∷◌, length, map, get_or, inl, inr, All, arith}
use Rattle.std.specs.Prelude.{filter, flat_map}
use Rattle.std.specs.List.{fold}
use Rattle.std.proofs.lemmas.List.{length-map}
use Rattle.std.proofs.lemmas.List.Sums.{fold_push}
use Rattle.lu_types.specs.Bits.{has_bit}
use Rattle.lu_types.specs.Tables.{TableField}
use Rattle.lu_types.specs.Bits as bit
use Rattle.lu_model.specs.Contents.{vectors_in}
use Rattle.lu_model.specs.Index.{FieldVector, Index, Span, VectorTerm}
use Rattle.lu_model.specs.Valid.{AreAsMany, IsValid, IsVector, IsVectorTerm}
use Rattle.lu_model.proofs.Each.{all-from_each, all_at, each-from_all, each_at, each_in, each_map}
use Rattle.lu_model.proofs.Found.{bit_within, get_in}
use Rattle.lu_model.proofs.Words.{Each, IsIn, has_vectors, vector_by_name, vector_in}
use Rattle.term_vectors.specs.Format.{bit_positions, bit_offsets}
use Rattle.term_vectors.specs.Vectors.{StoredVector, kept_count}
use Rattle.term_vectors.specs.VectorWriting.{IsDocumentWhole, IsTermWhole, IsVectorWhole, VectorWriting, with_document_begun, with_position, with_span, with_term_begun}
use Rattle.term_vectors.specs.Walks.{VectorTermWalk, has_left, walk_at, walk_on}
use Rattle.seg_writer.specs.VectorSteps.{with_positions, with_spans, with_whole_document, with_whole_term, with_whole_terms, with_whole_vector, with_whole_vectors}
use Rattle.seg_writer.proofs.VectorStepLemmas.{IsKept, IsKeptVector, positions-lack, term-lacks, vector-lacks}
use Rattle.seg_merger.specs.Renumbered.{is_vector_kept, kept_vectors, renumbered_vector}
use Rattle.seg_merger.specs.VectorSteps.{IsKeptWalk, IsOfFields, with_vectors_of}

-- ---- positions and spans

-- the positions so far are written, and these are left
pub record ArePositionsLeft (start w : VectorWriting) (all left : List ℕ) : Type 0 where
  pub same : with_positions left w ≡ with_positions all start
  pub lacks : w.lacks_positions ≡ length left

pub positions-lacking : (start w : VectorWriting) (all left rest : List ℕ) (p : ℕ) → left ≡ p ∷ rest → ArePositionsLeft start w all left → 0 < w.lacks_positions
positions-lacking start w all left rest p is h = let lacks = h.lacks in let size = ap length is in omega (arith, lacks, size)

pub positions-next : (start w n : VectorWriting) (all left rest : List ℕ) (p : ℕ) → left ≡ p ∷ rest → n ≡ with_position p w → ArePositionsLeft start w all left → ArePositionsLeft start n all rest
positions-next start w n all left rest p is step h =
    let lacks = h.lacks in
    let size = ap length is in
    let one = ap (λ (v : VectorWriting). v.lacks_positions) step in record {
      same = ap (with_positions rest) step ∙ ap (λ ps. with_positions ps w) (sym is) ∙ h.same;
      lacks = omega (arith, lacks, size, one);
    }

pub positions-end : (start w : VectorWriting) (all left : List ℕ) → left ≡ [] → ArePositionsLeft start w all left → w ≡ with_positions all start
positions-end start w all left none h = ap (λ ps. with_positions ps w) (sym none) ∙ h.same

-- the spans so far are written, and these are left
pub record AreSpansLeft (start w : VectorWriting) (all left : List Span) : Type 0 where
  pub same : with_spans left w ≡ with_spans all start
  pub lacks : w.lacks_spans ≡ length left
  pub positions : w.lacks_positions ≡ 0

pub spans-lacking : (start w : VectorWriting) (all left rest : List Span) (s : Span) → left ≡ s ∷ rest → AreSpansLeft start w all left → 0 < w.lacks_spans
spans-lacking start w all left rest s is h = let lacks = h.lacks in let size = ap length is in omega (arith, lacks, size)

pub spans-next : (start w n : VectorWriting) (all left rest : List Span) (s : Span) → left ≡ s ∷ rest → n ≡ with_span s w → AreSpansLeft start w all left → AreSpansLeft start n all rest
spans-next start w n all left rest s is step h =
    let lacks = h.lacks in
    let size = ap length is in
    let one = ap (λ (v : VectorWriting). v.lacks_spans) step in record {
      same = ap (with_spans rest) step ∙ ap (λ ss. with_spans ss w) (sym is) ∙ h.same;
      lacks = omega (arith, lacks, size, one);
      positions = ap (λ (v : VectorWriting). v.lacks_positions) step ∙ h.positions;
    }

pub spans-end : (start w : VectorWriting) (all left : List Span) → left ≡ [] → AreSpansLeft start w all left → w ≡ with_spans all start
spans-end start w all left none h = ap (λ ss. with_spans ss w) (sym none) ∙ h.same

-- ---- terms

as-many : {X : Type 0} (bit bits count : ℕ) (values : List X) → AreAsMany bit bits count values → length values ≡ kept_count bit bits count
as-many bit bits count values h = elim (has_bit bit bits) as (λ b. has_bit bit bits ≡ b → length values ≡ cond b count 0) [
  | true ↦ λ is. h.0 is
  | false ↦ λ is. ap length (h.1 is)
] refl

pub kept-term : (bits : ℕ) (t : VectorTerm) → IsVectorTerm bits t → IsKept bits t
kept-term bits t h = record { positions = as-many bit_positions bits t.frequency t.positions h.positions; spans = as-many bit_offsets bits t.frequency t.spans h.spans }

each-kept : (bits : ℕ) (terms : List VectorTerm) → Each (IsVectorTerm bits) terms → Each (IsKept bits) terms
each-kept bits [] h = tt
each-kept bits (t ∷ terms) h = (kept-term bits t h.0, each-kept bits terms h.1)

pub kept-walk : (bits : ℕ) (walk : VectorTermWalk) (t : VectorTerm) (left : List VectorTerm) → walk ≡ walk_at t left → IsVectorTerm bits t → IsKeptWalk bits walk
kept-walk bits walk t left is h =
    subst (IsKeptWalk bits) (sym is) (record { short = h.text.1; positions = as-many bit_positions bits t.frequency t.positions h.positions; spans = as-many bit_offsets bits t.frequency t.spans h.spans })

-- what lacks of a term that is begun, with its positions
pub walk-begun : (walk : VectorTermWalk) (w m n : VectorWriting) → IsKeptWalk w.bits walk → m ≡ with_term_begun walk.text walk.frequency w → n ≡ with_positions walk.positions m → (n.lacks_positions ≡ 0) × (n.lacks_spans ≡ length walk.spans)
walk-begun walk w m n kept begun handed =
    let now = positions-lack walk.positions m in
    let due : m.lacks_positions ≡ kept_count bit_positions w.bits walk.frequency = ap (λ (v : VectorWriting). v.lacks_positions) begun in
    let many = kept.positions in
    let left = ap (λ (v : VectorWriting). v.lacks_positions) handed ∙ now.positions in (
      omega (arith, due, many, left),
      ap (λ (v : VectorWriting). v.lacks_spans) handed ∙ now.spans ∙ ap (λ (v : VectorWriting). v.lacks_spans) begun ∙ sym kept.spans,
    )

moved-to : (w : VectorTermWalk) (left : List VectorTerm) → has_left left ≡ true → (t : VectorTerm) × (left ≡ t ∷ (walk_on w left).left) × (walk_on w left ≡ walk_at t (walk_on w left).left)
moved-to w [] more = cc
moved-to w (t ∷ left) more = (t, refl, refl)

-- the next term is passed
pub moved-on : (w n : VectorTermWalk) → has_left w.left ≡ true → n ≡ walk_on w w.left → (t : VectorTerm) × (w.left ≡ t ∷ n.left) × (n ≡ walk_at t n.left)
moved-on w n more is = subst (λ (m : VectorTermWalk). (t : VectorTerm) × (w.left ≡ t ∷ m.left) × (m ≡ walk_at t m.left)) (sym is) (moved-to w w.left more)

pub none-left : (left : List VectorTerm) → has_left left ≡ false → left ≡ []
none-left [] none = refl
none-left (t ∷ left) none = cc

-- the terms so far are written, and these are left
pub record AreTermsLeft (start w : VectorWriting) (all left : List VectorTerm) : Type 0 where
  pub same : with_whole_terms left w ≡ with_whole_terms all start
  pub bits : w.bits ≡ start.bits
  pub whole : IsTermWhole w
  pub lacks : w.lacks_terms ≡ length left
  pub terms : Each (IsVectorTerm start.bits) left

pub terms-lacking : (start w : VectorWriting) (all left rest : List VectorTerm) (t : VectorTerm) → left ≡ t ∷ rest → AreTermsLeft start w all left → 0 < w.lacks_terms
terms-lacking start w all left rest t is h = let lacks = h.lacks in let size = ap length is in omega (arith, lacks, size)

pub terms-first : (start w : VectorWriting) (all left rest : List VectorTerm) (t : VectorTerm) → left ≡ t ∷ rest → AreTermsLeft start w all left → IsVectorTerm w.bits t
terms-first start w all left rest t is h = subst (λ b. IsVectorTerm b t) (sym h.bits) (subst (Each (IsVectorTerm start.bits)) is h.terms).0

pub terms-next : (start w n : VectorWriting) (all left rest : List VectorTerm) (t : VectorTerm) → left ≡ t ∷ rest → n ≡ with_whole_term t w → AreTermsLeft start w all left → AreTermsLeft start n all rest
terms-next start w n all left rest t is step h =
    let one = term-lacks t w (kept-term w.bits t (terms-first start w all left rest t is h)) in
    let lacks = h.lacks in
    let size = ap length is in
    let less = ap (λ (v : VectorWriting). v.lacks_terms) step ∙ one.terms in record {
      same = ap (with_whole_terms rest) step ∙ ap (λ ts. with_whole_terms ts w) (sym is) ∙ h.same;
      bits = ap (λ (v : VectorWriting). v.bits) step ∙ one.same.bits ∙ h.bits;
      whole = subst IsTermWhole (sym step) one.whole;
      lacks = omega (arith, lacks, size, less);
      terms = (subst (Each (IsVectorTerm start.bits)) is h.terms).1;
    }

pub terms-end : (start w : VectorWriting) (all left : List VectorTerm) → left ≡ [] → AreTermsLeft start w all left → w ≡ with_whole_terms all start
terms-end start w all left none h = ap (λ ts. with_whole_terms ts w) (sym none) ∙ h.same

-- ---- vectors

module _ (table : List TableField) (numbers : List ℕ) where
  -- the vectors so far are written, where they are kept, and these are left
  pub record AreVectorsLeft (start w : VectorWriting) (all left : List StoredVector) : Type 0 where
    pub same : with_whole_vectors (kept_vectors table numbers left) w ≡ with_whole_vectors (kept_vectors table numbers all) start
    pub whole : IsVectorWhole w
    pub lacks : w.lacks_vectors ≡ length (kept_vectors table numbers left)
    pub of : Each (IsOfFields (length numbers)) left

  kept-if : Bool → StoredVector → List StoredVector → List StoredVector
  kept-if b v rest = map (renumbered_vector numbers) (cond b (v ∷ filter (is_vector_kept table numbers) rest) (filter (is_vector_kept table numbers) rest))

  kept-more : (left rest : List StoredVector) (v : StoredVector) (b : Bool) → left ≡ v ∷ rest → is_vector_kept table numbers v ≡ b → kept_vectors table numbers left ≡ kept-if b v rest
  unfolding kept-if
  kept-more left rest v b is kept = ap (kept_vectors table numbers) is ∙ ap (λ c. kept-if c v rest) kept

  pub vectors-begun : (count : ℕ) (w n : VectorWriting) (all : List StoredVector) → n ≡ with_document_begun count w → count ≡ length (filter (is_vector_kept table numbers) all) → IsDocumentWhole w → All (IsOfFields (length numbers)) all → AreVectorsLeft n n all all
  vectors-begun count w n all begun many whole of = record {
    same = refl;
    whole = subst IsVectorWhole (sym begun) (record { term = record { positions = whole.vector.term.positions; spans = whole.vector.term.spans }; terms = whole.vector.terms });
    lacks = ap (λ (v : VectorWriting). v.lacks_vectors) begun ∙ many ∙ sym (length-map (filter (is_vector_kept table numbers) all) (renumbered_vector numbers));
    of = each-from_all (IsOfFields (length numbers)) all of;
  }

  pub vectors-first : (start w : VectorWriting) (all left rest : List StoredVector) (v : StoredVector) → left ≡ v ∷ rest → AreVectorsLeft start w all left → IsOfFields (length numbers) v
  vectors-first start w all left rest v is h = (subst (Each (IsOfFields (length numbers))) is h.of).0

  pub vectors-lacking : (start w : VectorWriting) (all left rest : List StoredVector) (v : StoredVector) → left ≡ v ∷ rest → is_vector_kept table numbers v ≡ true → AreVectorsLeft start w all left → 0 < w.lacks_vectors
  unfolding kept-if
  vectors-lacking start w all left rest v is kept h =
      let lacks = h.lacks in
      let size = ap length (kept-more left rest v true is kept) in
      omega (arith, lacks, size)

  pub vectors-next : (start w n : VectorWriting) (all left rest : List StoredVector) (v : StoredVector) → left ≡ v ∷ rest → is_vector_kept table numbers v ≡ true → n ≡ with_whole_vector (renumbered_vector numbers v) w → AreVectorsLeft start w all left
      → AreVectorsLeft start n all rest
  unfolding kept-if
  vectors-next start w n all left rest v is kept step h =
      let of = vectors-first start w all left rest v is h in
      let one = vector-lacks (renumbered_vector numbers v) w (each-kept v.bits v.terms (each-from_all (IsVectorTerm v.bits) v.terms of.terms)) h.whole in
      let lacks = h.lacks in
      let more = kept-more left rest v true is kept in
      let size = ap length more in
      let less = ap (λ (u : VectorWriting). u.lacks_vectors) step ∙ one.vectors in record {
        same = ap (with_whole_vectors (kept_vectors table numbers rest)) step ∙ ap (λ vs. with_whole_vectors vs w) (sym more) ∙ h.same;
        whole = subst IsVectorWhole (sym step) one.whole;
        lacks = omega (arith, lacks, size, less);
        of = (subst (Each (IsOfFields (length numbers))) is h.of).1;
      }

  pub vectors-passed : (start w : VectorWriting) (all left rest : List StoredVector) (v : StoredVector) → left ≡ v ∷ rest → is_vector_kept table numbers v ≡ false → AreVectorsLeft start w all left → AreVectorsLeft start w all rest
  unfolding kept-if
  vectors-passed start w all left rest v is dropped h =
      let more = kept-more left rest v false is dropped in record {
        same = ap (λ vs. with_whole_vectors vs w) (sym more) ∙ h.same;
        whole = h.whole;
        lacks = h.lacks ∙ ap length more;
        of = (subst (Each (IsOfFields (length numbers))) is h.of).1;
      }

  pub vectors-whole : (start w : VectorWriting) (all left : List StoredVector) → left ≡ [] → AreVectorsLeft start w all left → IsDocumentWhole w
  vectors-whole start w all left none h = record { vector = h.whole; vectors = h.lacks ∙ ap (λ vs. length (kept_vectors table numbers vs)) none }

  pub vectors-end : (count : ℕ) (old start w : VectorWriting) (all left : List StoredVector) → start ≡ with_document_begun count old → count ≡ length (filter (is_vector_kept table numbers) all) → left ≡ [] → AreVectorsLeft start w all left
      → w ≡ with_whole_document (kept_vectors table numbers all) old
  vectors-end count old start w all left begun many none h =
      let kept = kept_vectors table numbers all in
      ap (λ vs. with_whole_vectors (kept_vectors table numbers vs) w) (sym none) ∙ h.same
      ∙ ap (with_whole_vectors kept) (begun ∙ ap (λ n. with_document_begun n old) (many ∙ sym (length-map (filter (is_vector_kept table numbers) all) (renumbered_vector numbers))))

  -- how many are kept, one more
  pub count-kept : (n : ℕ) (left rest all : List StoredVector) (v : StoredVector) → left ≡ v ∷ rest → is_vector_kept table numbers v ≡ true
      → n + length (filter (is_vector_kept table numbers) left) ≡ length (filter (is_vector_kept table numbers) all) → n + 1 + length (filter (is_vector_kept table numbers) rest) ≡ length (filter (is_vector_kept table numbers) all)
  count-kept n left rest all v is kept h =
      let p = is_vector_kept table numbers in
      let one = ap (λ vs. length (filter p vs)) is ∙ ap (λ b. length (cond b (v ∷ filter p rest) (filter p rest))) kept in
      omega (arith, h, one)

  pub count-passed : (n : ℕ) (left rest all : List StoredVector) (v : StoredVector) → left ≡ v ∷ rest → is_vector_kept table numbers v ≡ false
      → n + length (filter (is_vector_kept table numbers) left) ≡ length (filter (is_vector_kept table numbers) all) → n + length (filter (is_vector_kept table numbers) rest) ≡ length (filter (is_vector_kept table numbers) all)
  count-passed n left rest all v is dropped h =
      let p = is_vector_kept table numbers in
      let one = ap (λ vs. length (filter p vs)) is ∙ ap (λ b. length (cond b (v ∷ filter p rest) (filter p rest))) dropped in
      omega (arith, h, one)

-- ---- documents

-- the vectors of a document of a valid index
module _ (index : Index) (ok : IsValid index) (document : ℕ) (lt : document < index.size) where
  abbrev vectors_there : List StoredVector
  vectors_there = get_or index.vectors document []

  inside : IsIn vectors_there index.vectors
  inside = let many = ok.vectors in get_in index.vectors document [] (omega (arith, lt, many))

  pub few-vectors : length vectors_there < 2 ^ 31
  few-vectors = all_at (λ vs. length vs < 2 ^ 31) vectors_there index.vectors ok.few_vectors inside

  pub each-vector : Each (IsVector index.fields) vectors_there
  each-vector = each-from_all (IsVector index.fields) vectors_there (all_at (All (IsVector index.fields)) vectors_there index.vectors ok.vector_fields inside)

  pub vectors-of : (count : ℕ) → count ≡ length index.fields → All (IsOfFields count) vectors_there
  vectors-of count many = all-from_each (IsOfFields count) vectors_there (each_in (IsOfFields count) vectors_there (λ v k.
      let h = each_at (IsVector index.fields) v vectors_there each-vector k in
      let low = bit_within bit.vectors index.fields v.field refl h.field in
      record { there = omega (arith, low, many); few = h.few; terms = h.terms }))

-- the vectors of a document under a table have what they keep
pub kept-under : (table fields : List TableField) (vectors : List StoredVector) → Each (IsVector fields) vectors → Each IsKeptVector (vectors_in table (map (vector_by_name fields) vectors))
kept-under table fields [] h = tt
kept-under table fields (v ∷ vectors) h =
    let rest = kept-under table fields vectors h.1 in
    let others = filter (has_vectors table) (map (vector_by_name fields) vectors) in
    elim (has_vectors table (vector_by_name fields v)) as (λ b. Each IsKeptVector (map (vector_in table) (cond b (vector_by_name fields v ∷ others) others))) [
      | true ↦ (each-kept v.bits v.terms (each-from_all (IsVectorTerm v.bits) v.terms h.0.terms), rest)
      | false ↦ rest
    ]

-- one document more
pub documents-next : (documents : List (List StoredVector)) (vectors : List StoredVector) (start w n : VectorWriting) → w ≡ with_vectors_of documents start → n ≡ with_whole_document vectors w → n ≡ with_vectors_of (documents ++ vectors ∷ []) start
documents-next documents vectors start w n was step = step ∙ ap (with_whole_document vectors) was ∙ sym (fold_push (λ v vs. with_whole_document vs v) start documents vectors)

-- documents behind others
pub documents-both : (documents more : List (List StoredVector)) (start : VectorWriting) → with_vectors_of more (with_vectors_of documents start) ≡ with_vectors_of (documents ++ more) start
documents-both [] more start = refl
documents-both (d ∷ documents) more start = documents-both documents more (with_whole_document d start)
