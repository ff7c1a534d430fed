-- What documents without a fault are: their parts can be written.
use Rattle.std.proofs.Common.{◌≡◌, refl, sym, subst, ℕ, suc, ◌<◌, ◌^◌, List, [], ◌∷◌, length, get_or, true, None, Some, All, Contains, arith}
use Rattle.std.specs.Global.{Global}
use Rattle.std.specs.List.{AllByRecursion}
use Rattle.std.specs.Prelude.{flat_map, is_some, map}
use Rattle.std.specs.declared.vec.Vec.{Vec}
use Rattle.lu_types.proofs.DocFaultLemmas.{IsSound-from_none}
use Rattle.lu_types.specs.DocFaults.{IsSound, IsSoundField, doc_fault}
use Rattle.lu_types.specs.Documents.{IsDocument}
use Rattle.lu_types.specs.Joins.{fields_of, indexed_field, stored_field, table_of}
use Rattle.lu_types.specs.Tables.{TableField, number_of}
use Rattle.lu_types.specs.declared.document.Document.{Document}
use Rattle.lu_types.specs.declared.document.IndexedField.{IndexedField}
use Rattle.lu_types.specs.declared.document.Limits.{Limits}
use Rattle.lu_types.specs.declared.stored.StoredValue.{StoredValue}
use Rattle.lu_model.specs.Contents.{name_of}
use Rattle.lu_model.proofs.Among.{in_flat_map, in_left, in_map}
use Rattle.lu_model.proofs.Each.{all-from_each, all_at, each_at, each_in}
use Rattle.lu_model.proofs.Tables.{Has, Has-join}
use Rattle.lu_model.proofs.Words.{Each, IsIn, IsText}
use Rattle.lu_model.proofs.WrittenTables.{table_of-names}
use Rattle.seg_writer.specs.Answers.{fault_or, first_faulty}
use Rattle.seg_writer.specs.Appearing.{AreFieldColumns, HasApartFields}
use Rattle.seg_writer.specs.Entries.{AreWritableDocuments, IsColumn, IsWritableField}
use Rattle.seg_writer.specs.Orders.{AreColumnsOf}
use Rattle.seg_writer.specs.SegmentSteps.{AreFaultless}
use Rattle.seg_writer.specs.Stores.{AreInTable}
use Rattle.seg_writer.specs.declared.appearance.Appearance.{Appearance}
use Rattle.seg_writer.proofs.SoundColumns.{column-sound}
use Rattle.seg_writer.proofs.TableLemmas.{numbered, table-has}

each-faultless : (limits : Limits) (n : ℕ) (docs : List Document) → first_faulty limits n docs ≡ None → Each (λ doc. doc_fault doc limits ≡ None) docs
each-faultless limits n [] none = tt
each-faultless limits n (doc ∷ docs) none =
    elim (doc_fault doc limits) as (λ f. doc_fault doc limits ≡ f → fault_or f n (first_faulty limits (suc n) docs) ≡ None → Each (λ (d : Document). doc_fault d limits ≡ None) (doc ∷ docs)) [
      | None ↦ λ is rest. (is, each-faultless limits (suc n) docs rest)
      | Some fault ↦ λ is rest. cc
    ] refl none

-- none of them has a fault
faultless-at : (limits : Limits) (docs : List Document) (doc : Document) → AreFaultless limits docs → IsIn doc docs → doc_fault doc limits ≡ None
faultless-at limits docs doc h inside = each_at (λ (d : Document). doc_fault d limits ≡ None) doc docs (each-faultless limits 0 docs h.none) inside

sound-at : (limits : Limits) (docs : List Document) (doc : Document) → AreFaultless limits docs → IsIn doc docs → IsSound doc limits
sound-at limits docs doc h inside = IsSound-from_none doc limits (faultless-at limits docs doc h inside)

pub faultless-apart : (limits : Limits) (docs : List Document) → AreFaultless limits docs → All HasApartFields docs
faultless-apart limits docs h = all-from_each HasApartFields docs (each_in HasApartFields docs (λ doc inside. (sound-at limits docs doc h inside).apart))

fields-writable : (limits : Limits) (fields : List IndexedField) → AllByRecursion (IsSoundField limits) fields → AllByRecursion IsWritableField fields
fields-writable limits [] h = tt
fields-writable limits (f ∷ fields) (own, rest) = (record { few = (let low = own.few in let most = limits.few_tokens in omega (arith, low, most)); sound = own.tokens }, fields-writable limits fields rest)

pub faultless-writable : (limits : Limits) (docs : List Document) → AreFaultless limits docs → AreWritableDocuments docs
faultless-writable limits docs h =
    let P = λ (doc : Document). AllByRecursion IsWritableField doc.indexed in
    all-from_each P docs (each_in P docs (λ doc inside. fields-writable limits doc.indexed (sound-at limits docs doc h inside).fields))

-- ---- their table

pub faultless-names : (limits : Limits) (docs : List Document) → AreFaultless limits docs → All (λ (f : TableField). length f.name < 2 ^ 31) (table_of docs)
faultless-names limits docs h =
    let short = λ (f : TableField). length f.name < 2 ^ 31 in
    let names = table_of-names docs limits (λ doc inside. all_at IsDocument doc docs h.made inside) (λ doc inside. faultless-at limits docs doc h inside) in
    all-from_each short (table_of docs) (each_in short (table_of docs) (λ f inside. (each_at (λ (g : TableField). IsText g.name) f (table_of docs) names inside).1))

value-there : (docs : List Document) (doc : Document) (value : StoredValue) → IsIn doc docs → IsIn value doc.stored → is_some (number_of value.field (table_of docs)) ≡ true
value-there docs doc value inside own =
    let asked = stored_field value in
    let h : Has (table_of docs) asked = Has-join [] (flat_map fields_of docs) asked (in_flat_map fields_of doc asked docs inside (in_left asked (map stored_field doc.stored) (map indexed_field doc.indexed) (in_map stored_field value doc.stored own))) in
    numbered value.field (table_of docs) h.field h.found

pub stored-there : (docs : List Document) → All (λ (doc : Document). AreInTable (table_of docs) doc.stored) docs
stored-there docs =
    let there = λ (value : StoredValue). is_some (number_of value.field (table_of docs)) ≡ true in
    let P = λ (doc : Document). AreInTable (table_of docs) doc.stored in
    all-from_each P docs (each_in P docs (λ doc inside. all-from_each there doc.stored (each_in there doc.stored (λ value own. value-there docs doc value inside own))))

-- ---- their columns

pub faultless-columns : (limits : Limits) (table : List TableField) (docs : List Document) (columns : List (Vec Appearance Global)) → length docs < 2 ^ 31 → AreFaultless limits docs → AreFieldColumns table docs columns
    → All (λ (column : Vec Appearance Global). IsColumn column.items) columns
faultless-columns limits table docs columns few h are k d lt =
    let many = are.0 in
    column-sound (name_of table k) docs (get_or columns k d).items few (faultless-writable limits docs h) (are.1 k d (omega (arith, many, lt)))

pub columns-of-faultless : (limits : Limits) (table : List TableField) (docs : List Document) (columns : List (Vec Appearance Global)) → table ≡ table_of docs → AreFaultless limits docs → AreFieldColumns table docs columns → AreColumnsOf table docs columns
columns-of-faultless limits table docs columns is h are = record {
  apart = faultless-apart limits docs h;
  made = h.made;
  there = subst (λ t. (doc : Document) (field : IndexedField) → Contains docs doc → Contains doc.indexed field → is_some (number_of field.field t) ≡ true) (sym is) (table-has docs);
  fields = are;
}
