-- What bounds the counts of an index.
use Rattle.std.proofs.Common.{◌≡◌, suc, ◌+◌, ◌≤◌, true, false, cond, List, [], ◌∷◌, length, map, refl, sym, ap, ◌∙◌, arith, length-append}
use Rattle.std.specs.Prelude.{filter, flat_map}
use Rattle.std.specs.List.{fold}
use Rattle.std.specs.Str.{bytes_eq}
use Rattle.std.proofs.lemmas.Grind.{flat_map-append}
use Rattle.std.proofs.lemmas.List.{length-map}
use Rattle.lu_types.specs.Joins.{fields_of, join, join_bits, join_field, table_of}
use Rattle.lu_types.specs.Tables.{TableField}
use Rattle.lu_types.specs.declared.document.Document.{Document}
use Rattle.lu_types.specs.declared.document.IndexedField.{IndexedField}
use Rattle.lu_types.specs.declared.document.Token.{Token}
use Rattle.lu_model.specs.Index.{Index, Term, in_order, term_cmp}
use Rattle.lu_model.specs.Contents.{Content, content_of, index_of, indexed_term, joined_table, merge_of, merged_term, term_of, under, vector_of, vectors_in}
use Rattle.lu_model.specs.Valid.{IsValid}
use Rattle.lu_model.proofs.Words.{Each, has_vector_of, has_vectors, terms_of, vector_in}
use Rattle.lu_model.proofs.BySource.{all_names, has_entry, terms-merge}
use Rattle.lu_model.proofs.Each.{length_filter-le, length_in_order-le}

-- ---- documents

-- the tokens of documents
abbrev tokens_of : List IndexedField → List Token
tokens_of fields = flat_map (λ field. field.tokens) fields

length-terms_of : (fields : List IndexedField) → length (flat_map terms_of fields) ≡ length (tokens_of fields)
length-terms_of [] = refl
length-terms_of (f ∷ fields) =
    length-append (terms_of f) (flat_map terms_of fields)
    ∙ (λ i. length-map f.tokens (λ (token : Token). let t : Term = record { field = f.field; text = token.text } in t) i + length-terms_of fields i)
    ∙ sym (length-append f.tokens (tokens_of fields))

length-all_terms : (docs : List Document) → length (flat_map (λ content. content.terms) (map content_of docs)) ≡ length (tokens_of (flat_map (λ doc. doc.indexed) docs))
length-all_terms [] = refl
length-all_terms (d ∷ docs) =
    length-append (flat_map terms_of d.indexed) (flat_map (λ content. content.terms) (map content_of docs))
    ∙ (λ i. length-terms_of d.indexed i + length-all_terms docs i)
    ∙ sym (ap length (flat_map-append (λ (f : IndexedField). f.tokens) d.indexed (flat_map (λ doc. doc.indexed) docs)) ∙ length-append (tokens_of d.indexed) (tokens_of (flat_map (λ doc. doc.indexed) docs)))

-- there are no more terms than tokens
pub terms-le : (table : List TableField) (docs : List Document) → length (under table docs).terms ≤ length (tokens_of (flat_map (λ doc. doc.indexed) docs))
unfolding index_of
terms-le table docs =
    let all = flat_map (λ (content : Content). content.terms) (map content_of docs) in
    let made = length-map (in_order term_cmp all) (indexed_term table (map content_of docs)) in
    let fewer = length_in_order-le term_cmp all in
    let same = length-all_terms docs in
    omega (arith, made, fewer, same)

-- and no more vectors than indexed fields
pub vectors-le : (table : List TableField) (doc : Document) → length (vectors_in table (content_of doc).vectors) ≤ length doc.indexed
vectors-le table doc =
    let named = map vector_of (filter has_vector_of doc.indexed) in
    let a = length-map (filter (has_vectors table) named) (vector_in table) in
    let b = length_filter-le (has_vectors table) named in
    let c = length-map (filter has_vector_of doc.indexed) vector_of in
    let d = length_filter-le has_vector_of doc.indexed in
    omega (arith, a, b, c, d)

-- ---- tables

join_field-le : (table : List TableField) (new : TableField) → length (join_field table new) ≤ suc (length table)
unfolding join_field
join_field-le [] new = omega arith
join_field-le (old ∷ table) new =
    let rest = join_field-le table new in
    elim (bytes_eq new.name old.name) as (λ b. length (cond b (record { name = old.name; bits = join_bits old.bits new.bits } ∷ table) (old ∷ join_field table new)) ≤ suc (suc (length table))) [
      | true ↦ omega arith
      | false ↦ omega arith
    ]

join-le : (table fields : List TableField) → length (join table fields) ≤ length table + length fields
join-le table [] = omega arith
join-le table (f ∷ fields) = let one = join_field-le table f in let rest = join-le (join_field table f) fields in omega (arith, one, rest)

pub table_of-le : (docs : List Document) → length (table_of docs) ≤ length (flat_map fields_of docs)
table_of-le docs = let all = join-le [] (flat_map fields_of docs) in omega (arith, all)

joins-le : (table : List TableField) (indexes : List Index) → length (fold join table (map (λ (index : Index). index.fields) indexes)) ≤ length table + length (flat_map (λ (index : Index). index.fields) indexes)
joins-le table [] = omega arith
joins-le table (index ∷ indexes) =
    let one = join-le table index.fields in
    let rest = joins-le (join table index.fields) indexes in
    let both = length-append index.fields (flat_map (λ (index : Index). index.fields) indexes) in
    omega (arith, one, rest, both)

pub joined-le : (indexes : List Index) → length (joined_table indexes) ≤ length (flat_map (λ index. index.fields) indexes)
joined-le indexes = let all = joins-le [] indexes in omega (arith, all)

-- ---- merges

length-all_names : (indexes : List Index) → length (all_names indexes) ≡ length (flat_map (λ (index : Index). index.terms) indexes)
length-all_names [] = refl
length-all_names (index ∷ indexes) =
    length-append (map (term_of index.fields) index.terms) (all_names indexes)
    ∙ (λ i. length-map index.terms (term_of index.fields) i + length-all_names indexes i)
    ∙ sym (length-append index.terms (flat_map (λ (index : Index). index.terms) indexes))

-- a merge has no more terms than its sources
pub merged_terms-le : (indexes : List Index) → Each IsValid indexes → length (merge_of indexes).terms ≤ length (flat_map (λ index. index.terms) indexes)
merged_terms-le indexes ok =
    let names = in_order term_cmp (all_names indexes) in
    let is = ap length (terms-merge indexes ok) in
    let fewer = length_filter-le has_entry (map (merged_term indexes) names) in
    let made = length-map names (merged_term indexes) in
    let once = length_in_order-le term_cmp (all_names indexes) in
    let same = length-all_names indexes in
    omega (arith, is, fewer, made, once, same)
