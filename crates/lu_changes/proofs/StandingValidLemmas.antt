-- The index of documents whose canonical files are within the limit is valid.
use Rattle.std.proofs.Common.{◌≡◌, ◌≢◌, ℕ, ◌^◌, ◌<◌, ◌≤◌, Bool, true, false, List, [], ◌∷◌, length, map, All, None, refl, sym, ap, subst, ◌∙◌, arith}
use Rattle.std.specs.List.{AllByRecursion, IsDistinct, list_any}
use Rattle.std.specs.Str.{bytes_eq}
use Rattle.std.specs.Cmp.{IsEquivalence}
use Rattle.std.proofs.lemmas.List.{length-map}
use Rattle.std.proofs.lemmas.Map.Made.{is_member-Decides, length-le_from_is_member}
use Rattle.std.proofs.lemmas.Slice.Eq.{bytes_eq-Decides}
use Rattle.lu_dir.proofs.Contents.{bytes_eq-same}
use Rattle.lu_types.specs.DocFaults.{doc_fault, AreApart, IsSound}
use Rattle.lu_types.specs.Documents.{IsDocument, IsStoredValue}
use Rattle.lu_types.specs.Joins.{indexed_field, table_of}
use Rattle.lu_types.specs.Tables.{TableField}
use Rattle.lu_types.specs.declared.document.Document.{Document}
use Rattle.lu_types.specs.declared.document.IndexedField.{IndexedField}
use Rattle.lu_types.specs.declared.document.Limits.{Limits}
use Rattle.lu_types.specs.declared.stored.StoredValue.{StoredValue}
use Rattle.lu_types.proofs.DocFaultLemmas.{IsSound-from_none}
use Rattle.lu_model.specs.Index.{Index}
use Rattle.lu_model.specs.Contents.{Content, content_of, index_of, index_of_documents}
use Rattle.lu_model.specs.Valid.{IsSmall, IsStorable, IsValid}
use Rattle.lu_model.proofs.Words.{IsIn, IsShort, value_in}
use Rattle.lu_model.proofs.Among.{in_map, from_map, contains-from_in, in-from_contains}
use Rattle.lu_model.proofs.Each.{each_in, each_at, all_at, each-from_all}
use Rattle.lu_model.proofs.Covering.{table_of-covers}
use Rattle.lu_model.proofs.Held.{HasFields, HasFields-indexed}
use Rattle.lu_model.proofs.Merges.{covered}
use Rattle.lu_model.proofs.Tables.{Has, find_in, name-Has}
use Rattle.lu_model.proofs.ValidIndex.{is_valid}
use Rattle.lu_model.proofs.WrittenTables.{table_of-is_table, table_of-names}
use Rattle.stored_fields.specs.Values.{StoredDocument}
use Rattle.stored_fields.specs.Writing.{fdt_bytes}
use Rattle.segment_files.specs.Parts.{intervals_of, postings_of, canonical_parts_of}
use Rattle.segment_files.specs.Postings.{lines_written}
use Rattle.segment_files.specs.Written.{too_large_file}
use Rattle.segment_files.specs.declared.options.WriteOptions.{WriteOptions}
use Rattle.segment_files.proofs.Limits.{ArePartsWithin, parts-within}
use Rattle.term_dict.specs.Writing.{numbers_written}
use Rattle.seg_writer.proofs.InvertedLemmas.{bytes_symm}
use Rattle.lu_changes.proofs.StandingFewLemmas.{table-few, dictionary-few, lines-count, values-few, values-short}

-- ---- the parts of the index of documents

module _ (docs : List Document) where
  pub none-deleted : (index_of_documents docs).deleted ≡ []
  unfolding index_of
  none-deleted = refl

  fields-are : (index_of_documents docs).fields ≡ table_of docs
  unfolding index_of
  fields-are = refl

  stored-are : (index_of_documents docs).stored ≡ map (λ (content : Content). map (value_in (table_of docs)) content.stored) (map content_of docs)
  unfolding index_of
  stored-are = refl

-- ---- fields of a document are no more than those of a table that has them

other-name : (one other : List ℕ) → one ≢ other → bytes_eq one other ≡ false
other-name one other apart = by_test (bytes_eq one other) refl
  where
    by_test : (b : Bool) → bytes_eq one other ≡ b → b ≡ false
    by_test true is = absurd (apart ((bytes_eq-Decides one other).0 is))
    by_test false is = refl

others-apart : (name : List ℕ) (names : List (List ℕ)) → AllByRecursion (λ other. name ≢ other) names → AllByRecursion (λ other. bytes_eq name other ≡ false) names
others-apart name [] apart = tt
others-apart name (other ∷ names) apart = (other-name name other apart.0, others-apart name names apart.1)

names-distinct : (names : List (List ℕ)) → AreApart names → IsDistinct bytes_eq names
unfolding IsDistinct
names-distinct [] apart = tt
names-distinct (name ∷ names) apart = (others-apart name names apart.0, names-distinct names apart.1)

bytes_eq-laws : IsEquivalence bytes_eq
bytes_eq-laws = record {
  refl = bytes_eq-same;
  symm = bytes_symm;
  congr = λ one other third same. ap (λ (name : List ℕ). bytes_eq name third) ((bytes_eq-Decides one other).0 same);
}

indexed-few : (table : List TableField) (doc : Document) → HasFields table doc → AreApart (map (λ (field : IndexedField). field.field) doc.indexed) → length doc.indexed ≤ length table
indexed-few table doc has apart =
    let names : List (List ℕ) = map (λ (field : IndexedField). field.field) doc.indexed in
    let few : length (map (λ (field : IndexedField). field.field) doc.indexed) ≤ length (map (λ (field : TableField). field.name) table) = length-le_from_is_member bytes_eq-laws (map (λ (field : IndexedField). field.field) doc.indexed) (map (λ (field : TableField). field.name) table) (names-distinct (map (λ (field : IndexedField). field.field) doc.indexed) apart) named in
    omega (arith, few, length-map doc.indexed (λ (field : IndexedField). field.field), length-map table (λ (field : TableField). field.name))
  where
    named : (q : List ℕ) → list_any (bytes_eq q) (map (λ (field : IndexedField). field.field) doc.indexed) ≡ true → list_any (bytes_eq q) (map (λ (field : TableField). field.name) table) ≡ true
    named q is =
        let (field, there, same) : (field : IndexedField) × IsIn field doc.indexed × (q ≡ field.field) = from_map (λ (field : IndexedField). field.field) q doc.indexed (in-from_contains q (map (λ (field : IndexedField). field.field) doc.indexed) ((is_member-Decides bytes_eq-Decides (map (λ (field : IndexedField). field.field) doc.indexed) q).0 is)) in
        let one : Has table (indexed_field field) = HasFields-indexed table doc has field there in
        let inside : IsIn one.field table = (find_in (λ (f : TableField). bytes_eq field.field f.name) one.field table one.found).0 in
        let name : one.field.name ≡ q = name-Has table (indexed_field field) one ∙ sym same in
        (is_member-Decides bytes_eq-Decides (map (λ (f : TableField). f.name) table) q).1 (contains-from_in q (map (λ (f : TableField). f.name) table) (subst (λ (n : List ℕ). IsIn n (map (λ (f : TableField). f.name) table)) name (in_map (λ (f : TableField). f.name) one.field table inside)))

-- ---- an index whose canonical files are within the limit

module _ (options : WriteOptions) (index : Index) (fit : too_large_file options index ≡ None) where
  limit-small : options.limits.file_bytes < 2 ^ 31
  limit-small = let few = options.limits.few_bytes in omega (arith, few)

  within : ArePartsWithin options.limits.file_bytes (canonical_parts_of (intervals_of options) index)
  within = parts-within options.limits.file_bytes options.compound options.number (canonical_parts_of (intervals_of options) index) fit

  -- it has few fields
  pub few-fields : IsSmall (length index.fields)
  few-fields =
      let le = within.fnm in
      omega (arith, le, table-few index.fields, limit-small)

  -- and few terms
  pub few-terms : IsSmall (length index.terms)
  few-terms =
      let le = within.tis in
      let written = lines_written (intervals_of options) (postings_of (intervals_of options) index).lines in
      omega (arith, le, dictionary-few (numbers_written written) written.terms, lines-count (intervals_of options) index.fields index.terms, limit-small)

-- ---- the index of documents

module _ (options : WriteOptions) (docs : List Document) (limits : Limits) (fit : too_large_file options (index_of_documents docs) ≡ None) (made : All IsDocument docs) (faultless : All (λ doc. doc_fault doc limits ≡ None) docs) where
  abbrev index : Index
  index = index_of_documents docs

  table-small : IsSmall (length (table_of docs))
  table-small = subst (λ (fields : List TableField). length fields < 2 ^ 31) (fields-are docs) (few-fields options index fit)

  stored-small : length (fdt_bytes (map (λ (content : Content). map (value_in (table_of docs)) content.stored) (map content_of docs))) < 2 ^ 31
  stored-small =
      let le = (within options index fit).fdt in
      let small : length (fdt_bytes index.stored) < 2 ^ 31 = omega (arith, le, limit-small options index fit) in
      subst (λ (documents : List StoredDocument). length (fdt_bytes documents) < 2 ^ 31) (stored-are docs) small

  of_each : (P : Document → Type 0) → All P docs → (doc : Document) → IsIn doc docs → P doc
  of_each P all doc among = all_at P doc docs all among

  -- each document has few stored values and fields, and short values
  document-short : (doc : Document) → IsIn doc docs → IsShort doc
  document-short doc among =
      let sound : IsSound doc limits = IsSound-from_none doc limits (of_each (λ d. doc_fault d limits ≡ None) faultless doc among) in
      let in_store : IsIn (map (value_in (table_of docs)) doc.stored) (map (λ (content : Content). map (value_in (table_of docs)) content.stored) (map content_of docs)) = in_map (λ (content : Content). map (value_in (table_of docs)) content.stored) (content_of doc) (map content_of docs) (in_map content_of doc docs among) in
      let values : length (map (value_in (table_of docs)) doc.stored) ≤ length (fdt_bytes (map (λ (content : Content). map (value_in (table_of docs)) content.stored) (map content_of docs))) = values-few (map (value_in (table_of docs)) doc.stored) (map (λ (content : Content). map (value_in (table_of docs)) content.stored) (map content_of docs)) in_store in
      let fields : length doc.indexed ≤ length (table_of docs) = indexed-few (table_of docs) doc (covered (table_of docs) docs (table_of-covers docs) doc among) sound.apart in
      record {
        stored = omega (arith, values, length-map doc.stored (value_in (table_of docs)), stored-small);
        fields = omega (arith, fields, table-small);
        values = each_in (λ (value : StoredValue). IsStorable value.value) doc.stored (λ value there. (
          (each_at IsStoredValue value doc.stored (each-from_all IsStoredValue doc.stored (of_each IsDocument made doc among).stored) there).stored,
          let short = values-short (value_in (table_of docs) value) (map (value_in (table_of docs)) doc.stored) (map (λ (content : Content). map (value_in (table_of docs)) content.stored) (map content_of docs)) (in_map (value_in (table_of docs)) value doc.stored there) in_store in omega (arith, short, stored-small),
        ));
      }

  -- the index is valid
  pub index-valid : IsSmall (length docs) → IsValid (index_of_documents docs)
  index-valid few = is_valid (table_of docs) docs limits (record {
    fields = table_of-is_table docs table-small;
    names = table_of-names docs limits (of_each IsDocument made) (of_each (λ doc. doc_fault doc limits ≡ None) faultless);
    covers = table_of-covers docs;
    documents = of_each IsDocument made;
    sound = of_each (λ doc. doc_fault doc limits ≡ None) faultless;
    short = document-short;
    few = few;
    few_terms = few-terms options index fit;
  })
