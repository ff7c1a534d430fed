-- The table of documents: each of its fields is the first with its name, and it has each indexed field.
use Rattle.std.proofs.Common.{◌≡◌, ◌≢◌, refl, ap, sym, ◌∙◌, ℕ, zero, suc, ◌<◌, List, [], ◌∷◌, length, map, true, false, cond, Option, None, Some, Contains, arith}
use Rattle.std.specs.Prelude.{flat_map, is_some, option_map}
use Rattle.std.specs.List.{find}
use Rattle.std.specs.Str.{bytes_eq}
use Rattle.std.specs.Cmp.Lexicographic.{bytes_decides}
use Rattle.lu_types.specs.Joins.{fields_of, indexed_field, stored_field, table_of}
use Rattle.lu_types.specs.Tables.{TableField, number_of}
use Rattle.lu_types.specs.declared.document.Document.{Document}
use Rattle.lu_types.specs.declared.document.IndexedField.{IndexedField}
use Rattle.lu_types.proofs.JoinLemmas.{number_of-cons}
use Rattle.lu_model.specs.Contents.{name_of}
use Rattle.lu_model.proofs.Among.{in-from_contains, in_flat_map, in_map, in_right}
use Rattle.lu_model.proofs.Each.{all-from_each}
use Rattle.lu_model.proofs.JoinedTables.{Apart, apart-join}
use Rattle.lu_model.proofs.Tables.{Has, Has-join, same_name}
use Rattle.seg_writer.specs.Appearing.{AreFirst}
use Rattle.seg_writer.proofs.ColumnLemmas.{not-true}

first-of : (table : List TableField) → Apart table → (n : ℕ) → n < length table → number_of (name_of table n) table ≡ Some n
first-of [] apart n lt = absurd (omega (arith, lt))
first-of (f ∷ table) apart zero lt =
    number_of-cons f.name f table ∙ ap (λ b. cond b (Some 0) (option_map suc (number_of f.name table))) (same_name f.name)
first-of (f ∷ table) apart (suc n) lt =
    let name = name_of table n in
    let below : n < length table = omega (arith, lt) in
    let other : f.name ≢ name = all-from_each (λ (g : TableField). f.name ≢ g.name) table apart.0 n (record { name = []; bits = 0 }) below in
    number_of-cons name f table
    ∙ ap (λ b. cond b (Some 0) (option_map suc (number_of name table))) (not-true (bytes_eq name f.name) (λ same. other (sym ((bytes_decides name f.name).0 same))))
    ∙ ap (option_map suc) (first-of table apart.1 n below)

pub table-first : (docs : List Document) → AreFirst (table_of docs)
table-first docs = first-of (table_of docs) (apart-join [] (flat_map fields_of docs) tt)

some-more : (o : Option ℕ) → is_some o ≡ true → is_some (option_map suc o) ≡ true
some-more None some = some
some-more (Some n) some = refl

pub numbered : (name : List ℕ) (table : List TableField) (f : TableField) → find (λ (g : TableField). bytes_eq name g.name) table ≡ Some f → is_some (number_of name table) ≡ true
numbered name [] f e = cc
numbered name (g ∷ table) f e =
    elim (bytes_eq name g.name) as (λ b. bytes_eq name g.name ≡ b → cond b (Some g) (find (λ (x : TableField). bytes_eq name x.name) table) ≡ Some f → is_some (number_of name (g ∷ table)) ≡ true) [
      | true ↦ λ t k. ap is_some (number_of-cons name g table ∙ ap (λ b. cond b (Some 0) (option_map suc (number_of name table))) t)
      | false ↦ λ t k. ap is_some (number_of-cons name g table ∙ ap (λ b. cond b (Some 0) (option_map suc (number_of name table))) t) ∙ some-more (number_of name table) (numbered name table f k)
    ] refl e

pub table-has : (docs : List Document) (doc : Document) (field : IndexedField) → Contains docs doc → Contains doc.indexed field → is_some (number_of field.field (table_of docs)) ≡ true
table-has docs doc field inside own =
    let asked = indexed_field field in
    let h : Has (table_of docs) asked = Has-join [] (flat_map fields_of docs) asked (in_flat_map fields_of doc asked docs (in-from_contains doc docs inside) (in_right asked (map stored_field doc.stored) (map indexed_field doc.indexed) (in_map indexed_field field doc.indexed (in-from_contains field doc.indexed own)))) in
    numbered field.field (table_of docs) h.field h.found
