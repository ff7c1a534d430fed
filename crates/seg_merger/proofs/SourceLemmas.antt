-- What a merge has of its sources, by the new numbers of their fields.
use Rattle.std.proofs.Common.{◌≡◌, refl, ap, sym, ◌∙◌, subst, ℕ, ◌+◌, ◌<◌, ◌^◌, ◌++◌, Bool, true, false, not, cond, List, [], ◌∷◌, length, map, get_or, Some, None, inl, inr, All, arith}
use Rattle.std.specs.Prelude.{filter, flat_map}
use Rattle.std.specs.List.{range_with_len}
use Rattle.std.proofs.lemmas.List.Folds.{flat_map-map}
use Rattle.lu_types.specs.Bits as bit
use Rattle.lu_types.specs.Bits.{has_bit}
use Rattle.lu_types.specs.StoredFields.{StoredField}
use Rattle.lu_types.specs.Tables.{TableField}
use Rattle.lu_model.specs.Contents.{Content, content_at, field_at, field_number, has_norms, index_of, is_deleted, joined_table, live, live_contents, merge_of, missing_norm, name_of, stored_in, vectors_in}
use Rattle.lu_model.specs.Index.{FieldVector, Index}
use Rattle.lu_model.specs.Valid.{IsStorable, IsValid, IsVector}
use Rattle.lu_model.proofs.Among.{from_filter}
use Rattle.lu_model.proofs.BySource.{norms-merge, over_live, size-merge}
use Rattle.lu_model.proofs.Each.{all_at, each-from_all}
use Rattle.lu_model.proofs.Found.{bit_within, from_range, get_in}
use Rattle.lu_model.proofs.Words.{Each, IsIn, has_vectors, stored_by_name, value_in, vector_by_name, vector_in}
use Rattle.term_vectors.specs.Vectors.{StoredVector}
use Rattle.check_index.specs.Segments.{SegmentValue}
use Rattle.seg_merger.specs.Merged.{indexes_of, numbers_in}
use Rattle.seg_merger.specs.Renumbered.{is_vector_kept, kept_vectors, live_norms, live_stored, live_vectors, merged_norms, named_norms, renumbered_value, renumbered_values, renumbered_vector}
use Rattle.seg_merger.proofs.JoinedLemmas.{number-is}

map-alike : {X Y : Type 0} (f g : X → Y) (xs : List X) → ((x : X) → IsIn x xs → f x ≡ g x) → map f xs ≡ map g xs
map-alike f g [] h = refl
map-alike f g (x ∷ xs) h = λ i. h x (inl refl) i ∷ map-alike f g xs (λ y k. h y (inr k)) i

-- a live document is one of the index
pub live-below : (index : Index) (document : ℕ) → IsIn document (live index) → document < index.size
live-below index document h =
    let low = from_range document 0 index.size (from_filter (λ d. not (is_deleted index.deleted d)) document (range_with_len 0 index.size) h).0 in
    omega (arith, low)

-- ---- stored values

-- the stored values of the live documents of an index under a table
abbrev pub stored_under : List TableField → Index → List (List StoredField)
stored_under table index = map (λ document. stored_in table (content_at index document).stored) (live index)

-- and its vectors
abbrev pub vectors_under : List TableField → Index → List (List StoredVector)
vectors_under table index = map (λ document. vectors_in table (content_at index document).vectors) (live index)

module _ (sources : List SegmentValue) (s : SegmentValue) (inside : IsIn s sources) (ok : IsValid s.index) (numbers : List ℕ) (are : numbers ≡ numbers_in (joined_table (indexes_of sources)) s) where
  abbrev table : List TableField
  table = joined_table (indexes_of sources)

  abbrev fields : List TableField
  fields = s.index.fields

  values-alike : (values : List StoredField) → Each (λ (v : StoredField). (v.field < length fields) × IsStorable v.value) values → renumbered_values numbers values ≡ stored_in table (map (stored_by_name fields) values)
  values-alike [] h = refl
  values-alike (v ∷ values) h = λ i. record { field = number-is sources s inside numbers are v.field h.0.0 i; tokenized = v.tokenized; value = v.value } ∷ values-alike values h.1 i

  pub stored-alike : live_stored numbers s.index ≡ stored_under table s.index
  stored-alike = map-alike (λ document. renumbered_values numbers (get_or s.index.stored document [])) (λ document. stored_in table (content_at s.index document).stored) (live s.index) (λ document h.
      let low = live-below s.index document h in
      let many = ok.stored in
      let values = get_or s.index.stored document [] in
      values-alike values (each-from_all (λ (v : StoredField). (v.field < length fields) × IsStorable v.value) values (all_at (All (λ (v : StoredField). (v.field < length fields) × IsStorable v.value)) values s.index.stored ok.values (get_in s.index.stored document [] (omega (arith, low, many))))))

  vectors-alike : (vectors : List StoredVector) → Each (IsVector fields) vectors → kept_vectors table numbers vectors ≡ vectors_in table (map (vector_by_name fields) vectors)
  vectors-alike [] h = refl
  vectors-alike (v ∷ vectors) h =
      let low = bit_within bit.vectors fields v.field refl h.0.field in
      let number : get_or numbers v.field 0 ≡ field_number (name_of fields v.field) table = number-is sources s inside numbers are v.field low in
      let rest = vectors-alike vectors h.1 in
      let kept : is_vector_kept table numbers v ≡ has_vectors table (vector_by_name fields v) = ap (λ n. has_bit bit.vectors (field_at n table).bits) number in
      let named : renumbered_vector numbers v ≡ vector_in table (vector_by_name fields v) = ap (λ n. let w : StoredVector = record { field = n; bits = v.bits; terms = v.terms } in w) number in
      let more = λ (b : Bool). map (renumbered_vector numbers) (cond b (v ∷ filter (is_vector_kept table numbers) vectors) (filter (is_vector_kept table numbers) vectors)) in
      let others = filter (has_vectors table) (map (vector_by_name fields) vectors) in
      ap more kept
      ∙ elim (has_vectors table (vector_by_name fields v)) as (λ b. more b ≡ map (vector_in table) (cond b (vector_by_name fields v ∷ others) others)) [
        | true ↦ λ i. named i ∷ rest i
        | false ↦ rest
      ]

  pub vectors-same : live_vectors table numbers s.index ≡ vectors_under table s.index
  vectors-same = map-alike (λ document. kept_vectors table numbers (get_or s.index.vectors document [])) (λ document. vectors_in table (content_at s.index document).vectors) (live s.index) (λ document h.
      let low = live-below s.index document h in
      let many = ok.vectors in
      let vectors = get_or s.index.vectors document [] in
      vectors-alike vectors (each-from_all (IsVector fields) vectors (all_at (All (IsVector fields)) vectors s.index.vectors ok.vector_fields (get_in s.index.vectors document [] (omega (arith, low, many))))))

-- ---- the merge

pub stored-merged : (sources : List SegmentValue) → (merge_of (indexes_of sources)).stored ≡ flat_map (λ (s : SegmentValue). stored_under (joined_table (indexes_of sources)) s.index) sources
unfolding index_of
stored-merged sources =
    let table = joined_table (indexes_of sources) in
    over_live (λ (c : Content). stored_in table c.stored) (indexes_of sources) ∙ flat_map-map (stored_under table) (λ (s : SegmentValue). s.index) sources

pub vectors-merged : (sources : List SegmentValue) → (merge_of (indexes_of sources)).vectors ≡ flat_map (λ (s : SegmentValue). vectors_under (joined_table (indexes_of sources)) s.index) sources
unfolding index_of
vectors-merged sources =
    let table = joined_table (indexes_of sources) in
    over_live (λ (c : Content). vectors_in table c.vectors) (indexes_of sources) ∙ flat_map-map (vectors_under table) (λ (s : SegmentValue). s.index) sources

-- its norms, field by field
pub norms-merged : (indexes : List Index) → (merge_of indexes).norms ≡ map (λ (f : TableField). cond (has_norms f.bits) (Some (merged_norms indexes f.name)) None) (joined_table indexes)
unfolding index_of
norms-merged indexes = norms-merge indexes (joined_table indexes)

pub size-merged : (indexes : List Index) → (merge_of indexes).size ≡ length (flat_map live indexes)
unfolding index_of
size-merged indexes = size-merge indexes

pub fields-merged : (indexes : List Index) → (merge_of indexes).fields ≡ joined_table indexes
unfolding index_of
fields-merged indexes = refl
