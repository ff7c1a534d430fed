-- The table of documents without a fault is the table of a valid index.
use Rattle.std.proofs.Common.{◌≡◌, ◌≢◌, ◌<◌, List, [], ◌≤◌, None, length, map, sym, subst, inl, inr}
use Rattle.std.specs.Prelude.{flat_map}
use Rattle.lu_types.proofs.DocFaultLemmas.{IsSound-from_none}
use Rattle.lu_types.specs.DocFaults.{IsSound, IsSoundField, doc_fault}
use Rattle.lu_types.specs.Documents.{IsDocument, IsIndexedField, IsStoredValue}
use Rattle.lu_types.specs.Joins.{fields_of, indexed_field, stored_field, table_of}
use Rattle.lu_types.specs.Tables.{IsTable, TableField}
use Rattle.lu_types.specs.declared.document.Document.{Document}
use Rattle.lu_types.specs.declared.document.Limits.{Limits}
use Rattle.lu_types.specs.declared.stored.StoredValue.{StoredValue}
use Rattle.lu_types.specs.Bounds.{most_bytes}
use Rattle.lu_model.specs.Valid.{IsSmall}
use Rattle.lu_model.proofs.Words.{Each, IsIn, IsText}
use Rattle.lu_model.proofs.Among.{from_flat_map, from_map, in_either}
use Rattle.lu_model.proofs.Covering.{clear-fields_of, clear-join}
use Rattle.lu_model.proofs.Each.{all-from_each, each-from_all, each_at, each_in, pairs-from_each}
use Rattle.lu_model.proofs.JoinedTables.{apart-join, names-join}
use Rattle.lu_model.proofs.ValidTerms.{small_bytes}

-- a table of documents has different names and clear bits, and is one where it has few fields
pub table_of-is_table : (docs : List Document) → IsSmall (length (table_of docs)) → IsTable (table_of docs)
table_of-is_table docs few = record {
  few = few;
  clear = all-from_each (λ (f : TableField). f.bits < 128) (table_of docs) (each_in (λ (f : TableField). f.bits < 128) (table_of docs) (clear-join [] (flat_map fields_of docs) (λ f k. absurd k) (clear-fields_of docs)));
  apart = pairs-from_each (λ (f g : TableField). f.name ≢ g.name) (table_of docs) (apart-join [] (flat_map fields_of docs) tt);
}

-- the names of its fields are texts
pub table_of-names : (docs : List Document) (limits : Limits) → ((doc : Document) → IsIn doc docs → IsDocument doc) → ((doc : Document) → IsIn doc docs → doc_fault doc limits ≡ None)
    → Each (λ (f : TableField). IsText f.name) (table_of docs)
table_of-names docs limits made faultless = names-join IsText [] (flat_map fields_of docs) tt (each_in (λ (f : TableField). IsText f.name) (flat_map fields_of docs) (λ f h.
    let d = from_flat_map fields_of f docs h in
    let whole = made d.0 d.1 in
    let sound : IsSound d.0 limits = IsSound-from_none d.0 limits (faultless d.0 d.1) in
    elim (in_either f (map stored_field d.0.stored) (map indexed_field d.0.indexed) d.2) [
      | inl k ↦
          let v = from_map stored_field f d.0.stored k in
          subst (λ (g : TableField). IsText g.name) (sym v.2) (
            (each_at IsStoredValue v.0 d.0.stored (each-from_all IsStoredValue d.0.stored whole.stored) v.1).name,
            small_bytes (length v.0.field) (each_at (λ (value : StoredValue). length value.field ≤ most_bytes) v.0 d.0.stored sound.stored v.1),
          )
      | inr k ↦
          let v = from_map indexed_field f d.0.indexed k in
          subst (λ (g : TableField). IsText g.name) (sym v.2) (
            (each_at IsIndexedField v.0 d.0.indexed (each-from_all IsIndexedField d.0.indexed whole.indexed) v.1).name,
            small_bytes (length v.0.field) (each_at (IsSoundField limits) v.0 d.0.indexed sound.fields v.1).name,
          )
    ]))
