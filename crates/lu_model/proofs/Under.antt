-- A document of an index of documents holds there what the document holds.
use Rattle.std.proofs.Common.{◌≡◌, ℕ, ◌+◌, Bool, true, false, not, cond, List, [], ◌∷◌, Option, Some, None, map, refl, sym, ap, ◌∙◌, subst, inl, inr, get_or, zero-add}
use Rattle.std.specs.Prelude.{filter, flat_map, is_some, option_map, unwrap_or, slice_get}
use Rattle.std.specs.List.{list_any}
use Rattle.std.specs.Str.{bytes_eq}
use Rattle.std.specs.Cmp.Lexicographic.{bytes_decides}
use Rattle.std.proofs.Math.Numerals.{one-add}
use mathlib.Core.Bool.{true≢false}
use Rattle.lu_types.specs.Bits.{has_bit}
use Rattle.lu_types.specs.Tables.{TableField}
use Rattle.lu_types.specs.Bits as bit
use Rattle.lu_types.specs.declared.document.Document.{Document}
use Rattle.lu_types.specs.declared.stored.StoredValue.{StoredValue}
use Rattle.lu_model.specs.Index.{Term, term_cmp, in_order, KeptOccurrences, Index, FieldVector}
use Rattle.lu_model.specs.Contents.{Content, missing_norm, bits_of, content_at, content_of, field_number, has_norms, index_of, indexed_term, kept, name_of, occurrences_at, term_of, under, vector_of}
use Rattle.lu_model.proofs.Words.{IsIn, HaveSame, same_term, no_field, value_in, vector_in, has_vectors, has_vector_of, stands_at, entries_if_any, byte_of, IsTerm, norms_in, stored_by_name, vector_by_name}
use Rattle.lu_types.specs.Joins.{stored_field, indexed_field, has_vector, has_payloads, is_empty}
use Rattle.lu_model.proofs.Ordered.{in_in_order, from_in_order}
use Rattle.lu_model.proofs.Among.{in_map, from_map, in_filter, from_filter, in_flat_map, from_flat_map}
use Rattle.lu_model.proofs.Asked.{vectors-asked}
use Rattle.lu_model.proofs.Tables.{Has, name_at-Has}
use Rattle.lu_model.proofs.Alike.{term_order, terms_level}
use Rattle.lu_model.proofs.Held.{both_true, HasFields, HasFields-stored, HasFields-indexed, Says-indexed, stands_in, some-occurrences, occurrences-in_terms, no_norm}
use Rattle.lu_model.proofs.Entries.{get-map, slice_get-map, in_at, any-found, occurrences-entries, HasName, term_of-indexed, found-term, any-in}

-- stored values by number and again by name
stored_again : (table : List TableField) (values : List StoredValue) → ((v : StoredValue) → IsIn v values → Has table (stored_field v)) → map (stored_by_name table) (map (value_in table) values) ≡ values
stored_again table [] h = refl
stored_again table (v ∷ values) h =
    let name = name_at-Has table (stored_field v) (h v (inl refl)) in
    let rest = stored_again table values (λ w k. h w (inr k)) in
    λ i. record v { field = name i } ∷ rest i

-- vectors by number and again by name
vectors_again : (table : List TableField) (vectors : List (FieldVector (List ℕ))) → ((v : (FieldVector (List ℕ))) → IsIn v vectors → (name_of table (field_number v.field table) ≡ v.field) × (has_vectors table v ≡ true)) → map (vector_by_name table) (map (vector_in table) (filter (has_vectors table) vectors)) ≡ vectors
vectors_again table [] h = refl
vectors_again table (v ∷ vectors) h =
    let name = (h v (inl refl)).0 in
    let rest = vectors_again table vectors (λ w k. h w (inr k)) in
    ap (λ b. map (vector_by_name table) (map (vector_in table) (cond b (v ∷ filter (has_vectors table) vectors) (filter (has_vectors table) vectors)))) (h v (inl refl)).1
    ∙ (λ i. record { field = name i; bits = v.bits; terms = v.terms } ∷ rest i)

-- the norms at the number of a name
norms_at_number : (contents : List Content) (name : List ℕ) (table : List TableField) → get_or (map (norms_in contents) table) (field_number name table) None ≡ cond (has_norms (bits_of name table)) (Some (map (λ content. unwrap_or (content.norm name) missing_norm) contents)) None
norms_at_number contents name [] = refl
norms_at_number contents name (field ∷ table) =
    elim (bytes_eq name field.name) as (λ b. bytes_eq name field.name ≡ b → get_or (map (norms_in contents) (field ∷ table)) (cond (not b) (1 + field_number name table) 0) None ≡ cond (has_norms (get_or (field ∷ table) (cond (not b) (1 + field_number name table) 0) no_field).bits) (Some (map (λ content. unwrap_or (content.norm name) missing_norm) contents)) None) [
      | true ↦ λ e. ap (λ m. cond (has_norms field.bits) (Some (map (λ content. unwrap_or (content.norm m) missing_norm) contents)) None) (sym ((bytes_decides name field.name).0 e))
      | false ↦ λ e. ap (λ n. get_or (map (norms_in contents) (field ∷ table)) n None) (one-add (field_number name table)) ∙ norms_at_number contents name table ∙ ap (λ n. cond (has_norms (get_or (field ∷ table) n no_field).bits) (Some (map (λ content. unwrap_or (content.norm name) missing_norm) contents)) None) (sym (one-add (field_number name table)))
    ] refl

is_some-map : {X Y : Type 0} (f : X → Y) (o : Option X) → is_some (option_map f o) ≡ is_some o
is_some-map f None = refl
is_some-map f (Some x) = refl

-- an index of documents under a table that has their fields; a document of it, by its number
module _ (table : List TableField) (docs : List Document) (fields : (doc : Document) → IsIn doc docs → HasFields table doc) (texts : (t : Term) → IsIn t (flat_map (λ content. content.terms) (map content_of docs)) → IsTerm t) where
  abbrev pub contents : List Content
  contents = map content_of docs

  abbrev pub keys : List Term
  keys = in_order term_cmp (flat_map (λ content. content.terms) contents)

  -- a term of the index is a term of a document
  pub of_document : (t : Term) → IsIn t keys → (doc : Document) × IsIn doc docs × IsIn t (content_of doc).terms
  of_document t h =
      let flat = from_in_order term_cmp term_order t (flat_map (λ content. content.terms) contents) h in
      let c = from_flat_map (λ (content : Content). content.terms) t contents flat in
      let d = from_map content_of c.0 docs c.1 in
      (d.0, d.1, subst (λ (w : Content). IsIn t w.terms) d.2 c.2)

  pub names : (t : Term) → IsIn t keys → HasName table t
  names t h =
      let d = of_document t h in
      let s = stands_in d.0 t d.2 in
      subst (λ name. name_of table (field_number name table) ≡ name) (sym s.name) (name_at-Has table (indexed_field s.field) (HasFields-indexed table d.0 (fields d.0 d.1) s.field s.inside))

  in_keys : (doc : Document) → IsIn doc docs → (t : Term) → IsIn t (content_of doc).terms → IsIn t keys
  in_keys doc h t k =
      in_in_order term_cmp term_order t (flat_map (λ content. content.terms) contents) (λ x y p q. terms_level x y (texts x p) (texts y q))
      (in_flat_map (λ (content : Content). content.terms) (content_of doc) t contents (in_map content_of doc docs h) k)

  -- the entries of a term say of the document what is kept of it
  entries_say : (n : ℕ) (doc : Document) → slice_get docs n ≡ Some doc → (t : Term) → occurrences_at n (indexed_term table contents t).entries ≡ option_map (kept (bits_of t.field table)) ((content_of doc).occurrences t)
  entries_say n doc e t =
      ap (λ k. occurrences_at k (indexed_term table contents t).entries) (sym (zero-add n))
      ∙ occurrences-entries table t 0 n contents (content_of doc) (slice_get-map content_of docs n doc e)

  occurrences_say : (n : ℕ) (doc : Document) → slice_get docs n ≡ Some doc → (t : Term) → (b : Bool) → list_any (same_term t) keys ≡ b
      → occurrences_at n (entries_if_any (cond b (Some (indexed_term table contents t)) None)) ≡ option_map (kept (bits_of t.field table)) ((content_of doc).occurrences t)
  occurrences_say n doc e t true q = entries_say n doc e t
  occurrences_say n doc e t false q = sym (ap (option_map (kept (bits_of t.field table))) (unknown ((content_of doc).occurrences t) refl))
    where
      unknown : (o : Option KeptOccurrences) → (content_of doc).occurrences t ≡ o → o ≡ None
      unknown None p = refl
      unknown (Some o) p =
          absurd (true≢false (sym (any-in t keys (in_keys doc (in_at docs n doc e) t (occurrences-in_terms doc t (ap is_some p)))) ∙ q))

  abbrev index : Index
  index = under table docs

  pub same_occurrences : (n : ℕ) (doc : Document) → slice_get docs n ≡ Some doc → (t : Term) → (content_at index n).occurrences t ≡ option_map (kept (bits_of t.field table)) ((content_of doc).occurrences t)
  unfolding index_of
  same_occurrences n doc e t =
      ap (λ found. occurrences_at n (entries_if_any found)) (found-term table contents t keys names)
      ∙ occurrences_say n doc e t (list_any (same_term t) keys) refl

  stands-is : (n : ℕ) (doc : Document) → slice_get docs n ≡ Some doc → (t : Term) → stands_at n (indexed_term table contents t) ≡ is_some ((content_of doc).occurrences t)
  stands-is n doc e t =
      any-found (λ entry. _) (λ entry. entry.occurrences) (indexed_term table contents t).entries
      ∙ ap is_some (entries_say n doc e t) ∙ is_some-map (kept (bits_of t.field table)) ((content_of doc).occurrences t)

  pub same_terms : (n : ℕ) (doc : Document) → slice_get docs n ≡ Some doc → HaveSame (content_at index n).terms (content_of doc).terms
  unfolding index_of
  same_terms n doc e = record {
    to = λ t h.
        let found = from_map (term_of table) t (filter (stands_at n) (map (indexed_term table contents) keys)) h in
        let stands = from_filter (stands_at n) found.0 (map (indexed_term table contents) keys) found.1 in
        let key = from_map (indexed_term table contents) found.0 keys stands.0 in
        let same : t ≡ key.0 = found.2 ∙ ap (term_of table) key.2 ∙ term_of-indexed table contents key.0 (names key.0 key.1) in
        let known : is_some ((content_of doc).occurrences key.0) ≡ true = sym (stands-is n doc e key.0) ∙ ap (stands_at n) (sym key.2) ∙ stands.1 in
        subst (λ w. IsIn w (content_of doc).terms) (sym same) (occurrences-in_terms doc key.0 known);
    from = λ t h.
        let key = in_keys doc (in_at docs n doc e) t h in
        let stands : stands_at n (indexed_term table contents t) ≡ true = stands-is n doc e t ∙ some-occurrences doc t h in
        subst (λ w. IsIn w (content_at index n).terms) (term_of-indexed table contents t (names t key))
        (in_map (term_of table) (indexed_term table contents t) (filter (stands_at n) (map (indexed_term table contents) keys))
        (in_filter (stands_at n) (indexed_term table contents t) (map (indexed_term table contents) keys) (in_map (indexed_term table contents) t keys key) stands));
  }

  pub same_stored : (n : ℕ) (doc : Document) → slice_get docs n ≡ Some doc → (content_at index n).stored ≡ doc.stored
  unfolding index_of
  same_stored n doc e =
      ap (map (stored_by_name table)) (get-map (λ content. map (value_in table) content.stored) contents n (content_of doc) [] (slice_get-map content_of docs n doc e))
      ∙ stored_again table doc.stored (HasFields-stored table doc (fields doc (in_at docs n doc e)))

  pub same_vectors : (n : ℕ) (doc : Document) → slice_get docs n ≡ Some doc → (content_at index n).vectors ≡ (content_of doc).vectors
  unfolding index_of
  same_vectors n doc e =
      ap (map (vector_by_name table)) (get-map (λ content. map (vector_in table) (filter (has_vectors table) content.vectors)) contents n (content_of doc) [] (slice_get-map content_of docs n doc e))
      ∙ vectors_again table (content_of doc).vectors (λ v h.
      let from = from_map vector_of v (filter has_vector_of doc.indexed) h in
      let inside = from_filter has_vector_of from.0 doc.indexed from.1 in
      let has = HasFields-indexed table doc (fields doc (in_at docs n doc e)) from.0 inside.0 in
      let says = Says-indexed table from.0 has in
      let name : v.field ≡ from.0.field = ap (λ (w : (FieldVector (List ℕ))). w.field) from.2 in
      let vectors : has_bit bit.vectors (bits_of from.0.field table) ≡ true =
      says.vectors (vectors-asked from.0.vector (is_some from.0.norm) from.0.omit_tf (has_payloads from.0) ∙ (both_true (has_vector from.0.vector) (not (is_empty from.0.tokens)) inside.1).0) in (
        subst (λ w. name_of table (field_number w table) ≡ w) (sym name) (name_at-Has table (indexed_field from.0) has),
        ap (λ w. has_bit bit.vectors (bits_of w table)) name ∙ vectors,
      ))

  pub same_norm : (n : ℕ) (doc : Document) → slice_get docs n ≡ Some doc → (name : List ℕ) → unwrap_or ((content_at index n).norm name) missing_norm ≡ unwrap_or ((content_of doc).norm name) missing_norm
  unfolding index_of
  same_norm n doc e name =
      ap (λ norms. unwrap_or (byte_of n norms) missing_norm) (norms_at_number contents name table)
      ∙ elim (has_norms (bits_of name table)) as (λ b. has_norms (bits_of name table) ≡ b → unwrap_or (byte_of n (cond b (Some (map (λ content. unwrap_or (content.norm name) missing_norm) contents)) None)) missing_norm ≡ unwrap_or ((content_of doc).norm name) missing_norm) [
        | true ↦ λ t. get-map (λ content. unwrap_or (content.norm name) missing_norm) contents n (content_of doc) 0 (slice_get-map content_of docs n doc e)
        | false ↦ λ t. ap (λ norm. unwrap_or norm missing_norm) (sym (no_norm table doc (fields doc (in_at docs n doc e)) name t))
      ] refl
