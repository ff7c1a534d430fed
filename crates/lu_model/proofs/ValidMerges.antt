-- A merge of valid indexes is valid.
use Rattle.std.proofs.Common.{◌≡◌, ◌≢◌, ℕ, ◌<◌, ◌≤◌, true, false, cond, List, [], ◌∷◌, Option, Some, None, length, map, get_or, refl, sym, ap, ◌∙◌, subst, inl, inr, arith, lit<}
use Rattle.std.specs.Prelude.{filter, flat_map, unwrap_or, AllPairs, All}
use Rattle.std.specs.List.{AllZip}
use Rattle.std.specs.List.Sorted.{IsStrictlySortedBy}
use Rattle.std.proofs.lemmas.Bool.{cases_lt}
use Rattle.std.proofs.lemmas.List.{length-map}
use Rattle.lu_types.specs.Tables.{TableField}
use Rattle.lu_types.specs.Bits as bit
use Rattle.lu_types.specs.Joins.{join_all}
use Rattle.lu_model.specs.Index.{Term, term_cmp, in_order, IndexedTerm, FieldVector, Index}
use Rattle.lu_model.specs.Contents.{Content, missing_norm, bits_of, content_at, field_at, field_number, has_norms, index_of, indexed_term, live_contents, merge_of, name_of}
use Rattle.lu_model.specs.Valid.{IsSmall, IsIndexedTerm, IsVector, AreNorms, IsValid}
use Rattle.lu_model.proofs.Words.{IsIn, Each, EachPair, no_field, value_in, vector_in, has_vectors, byte_of, IsValue, CanBeMerged, Apart, norms_in, vector_by_name, IsText}
use Rattle.lu_model.proofs.Among.{from_map, from_filter}
use Rattle.lu_model.proofs.Ordered.{rises-in_order}
use Rattle.lu_model.proofs.Tables.{name_at-Has}
use Rattle.lu_model.proofs.Alike.{term_order}
use Rattle.lu_model.proofs.Covering.{clear-joins}
use Rattle.lu_model.proofs.Entries.{term_of-indexed}
use Rattle.lu_model.proofs.Each.{each_in, each_at, each_map, pair_filter, pair_map, pair_weaker, length_filter-le, all-from_each, each-from_all, pairs-from_each, each-from_pairs, are_bytes, all_at}
use Rattle.lu_model.proofs.ValidIndex.{terms_again}
use Rattle.lu_model.proofs.JoinedTables.{names-joins, apart-joins}
use Rattle.lu_model.proofs.Found.{bit_within, get_in, norm_bytes}
use Rattle.lu_model.proofs.MergedParts.{valid, has_at, each_content, stored_is, has_name, term_is}

module _ (indexes : List Index) (ok : CanBeMerged indexes) where
  abbrev tables : List (List TableField)
  tables = map (λ (index : Index). index.fields) indexes

  abbrev table : List TableField
  table = join_all tables

  abbrev contents : List Content
  contents = flat_map live_contents indexes

  abbrev keys : List Term
  keys = in_order term_cmp (flat_map (λ content. content.terms) contents)

  norm_small : (name : List ℕ) (index : Index) → IsIn index indexes → (n : ℕ) → (found : Option (List ℕ)) → get_or index.norms (field_number name index.fields) None ≡ found → unwrap_or (byte_of n found) missing_norm < 256
  norm_small name index h n None q = lit< tt
  norm_small name index h n (Some bytes) q = norm_bytes index.size index.fields index.norms (field_number name index.fields) bytes (valid indexes ok.valid index h).norms q n

  norms_are : (more : List TableField) → AllZip (AreNorms (length contents)) more (map (norms_in contents) more)
  norms_are [] = tt
  norms_are (f ∷ more) =
      let norm = λ (content : Content). unwrap_or (content.norm f.name) missing_norm in
      let one : AreNorms (length contents) f (norms_in contents f) =
      elim (has_norms f.bits) as (λ b. has_norms f.bits ≡ b → AreNorms (length contents) f (cond b (Some (map norm contents)) None)) [
        | true ↦ λ e. (e, length-map contents norm, are_bytes (map norm contents) (each_map (λ byte. byte < 256) norm contents (each_content indexes ok.valid (λ c. norm c < 256) (λ index h n l. norm_small f.name index h n (get_or index.norms (field_number f.name index.fields) None) refl))))
        | false ↦ λ e. e
      ] refl in
      (one, norms_are more)

  -- the vectors of a document of a source
  abbrev vectors_at : Index → ℕ → List (FieldVector ℕ)
  vectors_at index n = get_or index.vectors n []

  vectors_of : (index : Index) → IsIn index indexes → (n : ℕ) → n < index.size → IsIn (vectors_at index n) index.vectors
  vectors_of index h n l = let within : n < length index.vectors = omega (arith, (valid indexes ok.valid index h).vectors, l) in get_in index.vectors n [] within

  vectors_few : (index : Index) → IsIn index indexes → (n : ℕ) → n < index.size → IsSmall (length (map (vector_in table) (filter (has_vectors table) (content_at index n).vectors)))
  vectors_few index h n l =
      let few = all_at (λ vs. IsSmall (length vs)) (vectors_at index n) index.vectors (valid indexes ok.valid index h).few_vectors (vectors_of index h n l) in
      let a = length-map (vectors_at index n) (vector_by_name index.fields) in
      let b = length_filter-le (has_vectors table) (map (vector_by_name index.fields) (vectors_at index n)) in
      let c = length-map (filter (has_vectors table) (map (vector_by_name index.fields) (vectors_at index n))) (vector_in table) in
      omega (arith, few, a, b, c)

  vector_right : (index : Index) → IsIn index indexes → (n : ℕ) → n < index.size → (v : (FieldVector ℕ)) → IsIn v (vectors_at index n) → IsVector index.fields v
  vector_right index h n l v k = all_at (IsVector index.fields) v (vectors_at index n) (all_at (All (IsVector index.fields)) (vectors_at index n) index.vectors (valid indexes ok.valid index h).vector_fields (vectors_of index h n l)) k

  vectors_are : (index : Index) → IsIn index indexes → (n : ℕ) → n < index.size → Each (IsVector table) (map (vector_in table) (filter (has_vectors table) (content_at index n).vectors))
  vectors_are index h n l =
      let all = map (vector_by_name index.fields) (vectors_at index n) in
      each_map (IsVector table) (vector_in table) (filter (has_vectors table) all) (each_in (λ v. IsVector table (vector_in table v)) (filter (has_vectors table) all) (λ v k.
      let kept = from_filter (has_vectors table) v all k in
      let from = from_map (vector_by_name index.fields) v (vectors_at index n) kept.0 in
      let right = vector_right index h n l from.0 from.1 in
      subst (λ w. IsVector table (vector_in table w)) (sym from.2) (record {
        field = ap (has_vectors table) (sym from.2) ∙ kept.1;
        bits = right.bits;
        few = right.few;
        rise = right.rise;
        terms = right.terms;
      })))

  -- fields with other numbers have other names
  names_differ : (index : Index) → IsIn index indexes → (a b : ℕ) → a < length index.fields → b < length index.fields → a ≢ b → name_of index.fields a ≢ name_of index.fields b
  names_differ index h a b p q differ e =
      elim (cases_lt a b) [
        | inl l ↦ (valid indexes ok.valid index h).fields.apart a b no_field l q e
        | inr l ↦ let other : b < a = above a b l differ in (valid indexes ok.valid index h).fields.apart b a no_field other p (sym e)
      ]
    where
      above : (a b : ℕ) → b ≤ a → a ≢ b → b < a
      above a b l d = omega arith

  vectors_apart : (index : Index) → IsIn index indexes → (n : ℕ) → n < index.size → EachPair (λ (v w : (FieldVector ℕ)). v.field ≢ w.field) (map (vector_in table) (filter (has_vectors table) (content_at index n).vectors))
  vectors_apart index h n l =
      pair_map (λ (v w : (FieldVector ℕ)). v.field ≢ w.field) (vector_in table) (filter (has_vectors table) (map (vector_by_name index.fields) (vectors_at index n)))
      (pair_filter (λ (v w : (FieldVector (List ℕ))). field_number v.field table ≢ field_number w.field table) (has_vectors table) (map (vector_by_name index.fields) (vectors_at index n))
      (pair_map (λ (v w : (FieldVector (List ℕ))). field_number v.field table ≢ field_number w.field table) (vector_by_name index.fields) (vectors_at index n)
      (pair_weaker (λ (v w : (FieldVector ℕ)). field_number (name_of index.fields v.field) table ≢ field_number (name_of index.fields w.field) table) (λ (v w : (FieldVector ℕ)). v.field ≢ w.field) (vectors_at index n)
      (λ v w p q differ same.
      let low = bit_within bit.vectors index.fields v.field refl (vector_right index h n l v p).field in
      let high = bit_within bit.vectors index.fields w.field refl (vector_right index h n l w q).field in
      names_differ index h v.field w.field low high differ (sym (name_at-Has table (field_at v.field index.fields) (has_at indexes ok.valid index h v.field low)) ∙ ap (name_of table) same ∙ name_at-Has table (field_at w.field index.fields) (has_at indexes ok.valid index h w.field high)))
      (each-from_pairs Apart (vectors_at index n) (all_at (AllPairs Apart) (vectors_at index n) index.vectors (valid indexes ok.valid index h).apart (vectors_of index h n l))))))

  in_tables : (t : List TableField) → IsIn t tables → (index : Index) × IsIn index indexes × (t ≡ index.fields)
  in_tables t h = from_map (λ (index : Index). index.fields) t indexes h

  -- the merge of valid indexes is valid
  pub merge_is_valid : IsValid (merge_of indexes)
  unfolding index_of IsStrictlySortedBy
  merge_is_valid =
      let stored = λ (c : Content). map (value_in table) c.stored in
      let vectors = λ (c : Content). map (vector_in table) (filter (has_vectors table) c.vectors) in
      let clear = clear-joins [] tables (λ f k. absurd k) (λ t k f q. let i = in_tables t k in each_at (λ (f : TableField). f.bits < 128) f i.0.fields (each-from_all (λ (f : TableField). f.bits < 128) i.0.fields (valid indexes ok.valid i.0 i.1).fields.clear) (subst (IsIn f) i.2 q)) in
      record {
        small = ok.few;
        fields = record {
          few = ok.few_fields;
          clear = all-from_each (λ field. field.bits < 128) table (each_in (λ (f : TableField). f.bits < 128) table clear);
          apart = pairs-from_each (λ field later. field.name ≢ later.name) table (apart-joins [] tables tt);
        };
        names = all-from_each (λ (f : TableField). IsText f.name) table (names-joins IsText [] tables tt (λ t k. let i = in_tables t k in subst (λ u. Each (λ (f : TableField). IsText f.name) u) (sym i.2) (each-from_all (λ (f : TableField). IsText f.name) i.0.fields (valid indexes ok.valid i.0 i.1).names)));
        stored = length-map contents stored;
        few_values = all-from_each (λ values. IsSmall (length values)) (map stored contents) (each_map (λ values. IsSmall (length values)) stored contents (each_content indexes ok.valid (λ c. IsSmall (length (stored c))) (λ index h n l. (stored_is indexes ok.valid index h n l).0)));
        values = all-from_each (All (IsValue (length table))) (map stored contents) (each_map (All (IsValue (length table))) stored contents (each_content indexes ok.valid (λ c. All (IsValue (length table)) (stored c)) (λ index h n l. all-from_each (IsValue (length table)) (stored (content_at index n)) (stored_is indexes ok.valid index h n l).1)));
        few_terms = ok.few_terms;
        rise = subst (IsStrictlySortedBy term_cmp) (sym (terms_again table contents keys (λ t k. term_of-indexed table contents t (has_name indexes ok.valid t k)))) (rises-in_order term_cmp term_order (flat_map (λ content. content.terms) contents));
        terms = all-from_each (λ (term : IndexedTerm). IsIndexedTerm (length contents) (field_at term.field table).bits term) (map (indexed_term table contents) keys) (each_map (λ (term : IndexedTerm). IsIndexedTerm (length contents) (field_at term.field table).bits term) (indexed_term table contents) keys (each_in (λ t. IsIndexedTerm (length contents) (bits_of t.field table) (indexed_term table contents t)) keys (term_is indexes ok.valid)));
        norms = norms_are table;
        vectors = length-map contents vectors;
        few_vectors = all-from_each (λ vs. IsSmall (length vs)) (map vectors contents) (each_map (λ vs. IsSmall (length vs)) vectors contents (each_content indexes ok.valid (λ c. IsSmall (length (vectors c))) vectors_few));
        apart = all-from_each (AllPairs Apart) (map vectors contents) (each_map (AllPairs Apart) vectors contents (each_content indexes ok.valid (λ c. AllPairs Apart (vectors c)) (λ index h n l. pairs-from_each Apart (vectors (content_at index n)) (vectors_apart index h n l))));
        vector_fields = all-from_each (All (IsVector table)) (map vectors contents) (each_map (All (IsVector table)) vectors contents (each_content indexes ok.valid (λ c. All (IsVector table) (vectors c)) (λ index h n l. all-from_each (IsVector table) (vectors (content_at index n)) (vectors_are index h n l))));
        deleted = tt;
        deleted_below = λ k d l. absurd (omega arith);
      }
