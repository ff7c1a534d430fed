-- The vectors of documents under their table.
use Rattle.std.proofs.Common.{◌≡◌, ◌≢◌, refl, ap, sym, ◌∙◌, subst, ℕ, zero, suc, ◌<◌, ◌≤◌, ◌^◌, Bool, true, false, not, cond, eqb, List, [], ◌∷◌, length, map, take, get_or, inl, inr, All, Contains, arith}
use Rattle.std.specs.Prelude.{filter, is_some, flat_map, ◌||◌}
use Rattle.std.specs.List.{AllByRecursion, list_any, IsDistinct}
use Rattle.std.proofs.lemmas.Bool.{eqb-true}
use Rattle.std.proofs.lemmas.List.{length-map}
use Rattle.std.proofs.lemmas.List.Elements.{Contains-get_or}
use Rattle.std.proofs.lemmas.Map.Steps.{length-le_from_distinct_below}
use mathlib.Core.Bool.{true≢false}
use Rattle.lu_types.specs.DocFaults.{AreApart}
use Rattle.lu_types.specs.Joins.{fields_of, has_payloads, has_vector, indexed_field, is_empty, table_of}
use Rattle.lu_types.specs.Tables.{TableField}
use Rattle.lu_types.specs.declared.document.Document.{Document}
use Rattle.lu_types.specs.declared.document.IndexedField.{IndexedField}
use Rattle.lu_model.specs.Contents.{content_of, field_at, field_number, vector_of, vectors_in}
use Rattle.lu_model.proofs.Words.{IsIn, Each, has_vectors, vector_in}
use Rattle.lu_model.proofs.Among.{from_filter, in-from_contains, in_flat_map}
use Rattle.lu_model.proofs.Asked.{vectors-asked}
use Rattle.lu_model.proofs.Held.{HasFields, HasFields-indexed, Says-indexed, both_true}
use Rattle.lu_model.proofs.Tables.{Has-join, name_at-Has}
use Rattle.lu_model.proofs.ValidIndex.{number-lt}
use Rattle.term_vectors.specs.Vectors.{StoredVector}
use Rattle.seg_writer.specs.Appearing.{HasApartFields, names_of_indexed}
use Rattle.seg_writer.specs.Entries.{AreWritableDocuments, IsWritableField}
use Rattle.seg_writer.proofs.TableLemmas.{table-has}
use Rattle.seg_writer.specs.VectorSteps.{AreWritableFields, has_field_vector, numbered_vector, vectors_of_fields}
use Rattle.seg_writer.specs.VectorsDue.{vectors_of_documents}
use Rattle.seg_writer.proofs.VectorStepLemmas.{IsKeptVector}
use Rattle.seg_writer.proofs.VectorTermLemmas.{kept-vector}

-- ---- the filter by the table keeps all

-- the table of documents has the fields of each
pub table-fields : (docs : List Document) (doc : Document) → Contains docs doc → HasFields (table_of docs) doc
table-fields docs doc inside f own = Has-join [] (flat_map fields_of docs) f (in_flat_map fields_of doc f docs (in-from_contains doc docs inside) own)

-- the number of a field by its name
abbrev number_of_field : List TableField → IndexedField → ℕ
number_of_field table f = field_number f.field table

module _ (table : List TableField) (doc : Document) (has : HasFields table doc) where
  bit-there : (f : IndexedField) → IsIn f doc.indexed → has_field_vector f ≡ true → has_vectors table (vector_of f) ≡ true
  bit-there f inside asked =
      (Says-indexed table f (HasFields-indexed table doc has f inside)).vectors
      (vectors-asked f.vector (is_some f.norm) f.omit_tf (has_payloads f) ∙ (both_true (has_vector f.vector) (not (is_empty f.tokens)) asked).0)

  vectors-kept : (fields : List IndexedField) → ((f : IndexedField) → IsIn f fields → has_vectors table (vector_of f) ≡ true) → filter (has_vectors table) (map vector_of fields) ≡ map vector_of fields
  vectors-kept [] all = refl
  vectors-kept (f ∷ fields) all =
      ap (λ b. cond b (vector_of f ∷ filter (has_vectors table) (map vector_of fields)) (filter (has_vectors table) (map vector_of fields))) (all f (inl refl))
      ∙ ap (λ vs. vector_of f ∷ vs) (vectors-kept fields (λ g h. all g (inr h)))

  numbered-each : (fields : List IndexedField) → map (vector_in table) (map vector_of fields) ≡ map (λ (f : IndexedField). numbered_vector (field_number f.field table) (vector_of f)) fields
  numbered-each [] = refl
  numbered-each (f ∷ fields) = ap (λ vs. numbered_vector (field_number f.field table) (vector_of f) ∷ vs) (numbered-each fields)

  -- the vectors of a document are those of its fields
  pub document-vectors : vectors_in table (content_of doc).vectors ≡ vectors_of_fields table doc.indexed
  document-vectors =
      let fields = filter has_field_vector doc.indexed in
      ap (map (vector_in table)) (vectors-kept fields (λ f h. let own = from_filter has_field_vector f doc.indexed h in bit-there f own.0 own.1))
      ∙ numbered-each fields

  -- ---- the fields of a document are no more than those of the table

  name-there : (f : IndexedField) → IsIn f doc.indexed → (field_at (field_number f.field table) table).name ≡ f.field
  name-there f inside = name_at-Has table (indexed_field f) (HasFields-indexed table doc has f inside)

  below-table : (f : IndexedField) → IsIn f doc.indexed → field_number f.field table < length table
  below-table f inside = let h = HasFields-indexed table doc has f inside in number-lt f.field table h.field h.found

  other-numbers : (f : IndexedField) → IsIn f doc.indexed → (gs : List IndexedField) → ((g : IndexedField) → IsIn g gs → IsIn g doc.indexed) → Each (λ other. f.field ≢ other) (names_of_indexed gs)
      → Each (λ m. eqb (field_number f.field table) m ≡ false) (map (number_of_field table) gs)
  other-numbers f inside [] all apart = tt
  other-numbers f inside (g ∷ gs) all apart =
      (at_test (eqb (field_number f.field table) (field_number g.field table)) refl, other-numbers f inside gs (λ x h. all x (inr h)) apart.1)
    where
      at_test : (b : Bool) → eqb (field_number f.field table) (field_number g.field table) ≡ b → eqb (field_number f.field table) (field_number g.field table) ≡ false
      at_test true e =
          let same : field_number f.field table ≡ field_number g.field table = eqb-true (field_number f.field table) (field_number g.field table) e in
          absurd (apart.0 (sym (name-there f inside) ∙ ap (λ n. (field_at n table).name) same ∙ name-there g (all g (inl refl))))
      at_test false e = e

  distinct-numbers : (fs : List IndexedField) → ((g : IndexedField) → IsIn g fs → IsIn g doc.indexed) → AreApart (names_of_indexed fs) → IsDistinct eqb (map (number_of_field table) fs)
  unfolding IsDistinct
  distinct-numbers [] all apart = tt
  distinct-numbers (f ∷ fs) all apart = (other-numbers f (all f (inl refl)) fs (λ x h. all x (inr h)) apart.0, distinct-numbers fs (λ x h. all x (inr h)) apart.1)

  numbers-below : (fs : List IndexedField) → ((g : IndexedField) → IsIn g fs → IsIn g doc.indexed) → (q : ℕ) → list_any (eqb q) (map (number_of_field table) fs) ≡ true → q < length table
  numbers-below [] all q e = absurd (true≢false (sym e))
  numbers-below (f ∷ fs) all q e = at_test (eqb q (field_number f.field table)) refl (numbers-below fs (λ x h. all x (inr h)) q)
    where
      at_test : (b : Bool) → eqb q (field_number f.field table) ≡ b → (list_any (eqb q) (map (number_of_field table) fs) ≡ true → q < length table) → q < length table
      at_test true same _ = subst (λ n. n < length table) (sym (eqb-true q (field_number f.field table) same)) (below-table f (all f (inl refl)))
      at_test false differs later = later (sym (ap (λ b. b || list_any (eqb q) (map (number_of_field table) fs)) differs) ∙ e)

  pub few-fields : HasApartFields doc → length doc.indexed ≤ length table
  few-fields apart =
      subst (λ n. n ≤ length table) (length-map doc.indexed (number_of_field table))
      (length-le_from_distinct_below (map (number_of_field table) doc.indexed) (length table) (distinct-numbers doc.indexed (λ g h. h) apart) (numbers-below doc.indexed (λ g h. h)))

-- ---- vectors of fields

-- an item that passes is not among those that pass in front of it
pub length-filter_take-lt : {X : Type 0} (p : X → Bool) (xs : List X) (i : ℕ) (x : X) → i < length xs → x ≡ get_or xs i x → p x ≡ true → length (filter p (take i xs)) < length (filter p xs)
length-filter_take-lt p [] i x lt is passes = absurd (omega (arith, lt))
length-filter_take-lt p (y ∷ xs) zero x lt is passes =
    let one : length (cond (p y) (y ∷ filter p xs) (filter p xs)) ≡ suc (length (filter p xs)) = ap (λ b. length (cond b (y ∷ filter p xs) (filter p xs))) (ap p (sym is) ∙ passes) in
    omega (arith, one)
length-filter_take-lt p (y ∷ xs) (suc i) x lt is passes =
    let rest = length-filter_take-lt p xs i x (omega (arith, lt)) is passes in
    elim (p y) as (λ b. length (cond b (y ∷ filter p (take i xs)) (filter p (take i xs))) < length (cond b (y ∷ filter p xs) (filter p xs))) [
      | true ↦ omega (arith, rest)
      | false ↦ rest
    ]

-- each vector has what is kept
pub fields-kept : (table : List TableField) (fields : List IndexedField) → Each IsKeptVector (vectors_of_fields table fields)
fields-kept table fields = each-kept (filter has_field_vector fields)
  where
    each-kept : (fs : List IndexedField) → Each IsKeptVector (map (λ (f : IndexedField). numbered_vector (field_number f.field table) (vector_of f)) fs)
    each-kept [] = tt
    each-kept (f ∷ fs) = (kept-vector (field_number f.field table) f, each-kept fs)

-- ---- documents

-- the vectors of documents, by their fields
abbrev pub vectors_by_fields : List TableField → List Document → List (List StoredVector)
vectors_by_fields table docs = map (λ doc. vectors_of_fields table doc.indexed) docs

pub documents-kept : (table : List TableField) (docs : List Document) → Each (Each IsKeptVector) (vectors_by_fields table docs)
documents-kept table [] = tt
documents-kept table (doc ∷ docs) = (fields-kept table doc.indexed, documents-kept table docs)

pub documents-vectors : (table : List TableField) (docs : List Document) → ((doc : Document) → IsIn doc docs → HasFields table doc) → vectors_of_documents table docs ≡ vectors_by_fields table docs
documents-vectors table [] has = refl
documents-vectors table (doc ∷ docs) has =
    ap (λ vs. vs ∷ vectors_of_documents table docs) (document-vectors table doc (has doc (inl refl)))
    ∙ ap (λ ds. vectors_of_fields table doc.indexed ∷ ds) (documents-vectors table docs (λ d h. has d (inr h)))

-- a document can be written
pub writable-fields : (docs : List Document) (i : ℕ) (doc : Document) → length (table_of docs) < 2 ^ 31 → AreWritableDocuments docs → All HasApartFields docs → i < length docs → doc ≡ get_or docs i doc
    → AreWritableFields (table_of docs) doc.indexed
writable-fields docs i doc few writable apart lt is =
    let inside : Contains docs doc = subst (Contains docs) (sym is) (Contains-get_or docs i doc lt) in
    let most = few-fields (table_of docs) doc (table-fields docs doc inside) (subst HasApartFields (sym is) (apart i doc lt)) in record {
      few = omega (arith, few, most);
      each = subst (λ (d : Document). AllByRecursion IsWritableField d.indexed) (sym is) (writable i doc lt);
      there = λ k d below. table-has docs doc (get_or doc.indexed k d) inside (Contains-get_or doc.indexed k d below);
    }
