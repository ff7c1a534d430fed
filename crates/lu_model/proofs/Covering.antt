-- Tables that cover documents.
use Rattle.std.proofs.Common.{◌≡◌, ◌<◌, true, false, cond, List, [], ◌∷◌, Some, map, refl, sym, ap, ◌∙◌, subst, inl, inr, arith, lit<}
use Rattle.std.specs.Prelude.{flat_map, is_some}
use Rattle.std.specs.List.{fold}
use Rattle.std.specs.Str.{bytes_eq}
use Rattle.lu_types.specs.Tables.{TableField}
use Rattle.lu_types.specs.declared.document.Document.{Document}
use Rattle.lu_types.specs.Joins.{join_bits, join_field, join, has_payloads, stored_field, indexed_field, fields_of, table_of, Covers}
use Rattle.lu_model.proofs.Words.{IsIn, IsClear}
use Rattle.lu_model.proofs.Among.{in_flat_map, from_flat_map, from_map, in_either}
use Rattle.lu_model.proofs.Asked.{asked_bits-lt}
use Rattle.lu_model.proofs.Bits.{Says, join_bits-stays, join_bits-lt}
use Rattle.lu_model.proofs.Tables.{Has, Has-join, named}
use Rattle.lu_model.proofs.Held.{HasFields}

-- to join a field that the table has changes nothing
pub join_field-stays : (table : List TableField) (new : TableField) → IsClear table → new.bits < 128 → Has table new → join_field table new ≡ table
unfolding join_field
join_field-stays [] new clear low h = let e = h.found in cc
join_field-stays (old ∷ table) new clear low h =
    elim (bytes_eq new.name old.name) as (λ b. cond b (Some old) (named new.name table) ≡ Some h.field → cond b (record { name = old.name; bits = join_bits old.bits new.bits } ∷ table) (old ∷ join_field table new) ≡ old ∷ table) [
      | true ↦ λ e.
          let same : old ≡ h.field = cc in
          let old_low : old.bits < 128 = clear old (inl refl) in
          let stays : join_bits old.bits new.bits ≡ old.bits = join_bits-stays old.bits new.bits (omega arith) low (λ i. subst (λ f. Says f.bits new.bits) (sym same) (h.says i)) in
          λ i. record { name = old.name; bits = stays i } ∷ table
      | false ↦ λ e. let rest = join_field-stays table new (λ f k. clear f (inr k)) low (record { field = h.field; found = e; says = h.says }) in λ i. old ∷ rest i
    ] h.found

pub join-stays : (table fields : List TableField) → IsClear table → IsClear fields → ((f : TableField) → IsIn f fields → Has table f) → join table fields ≡ table
join-stays table [] clear low h = refl
join-stays table (f ∷ fields) clear low h =
    ap (λ t. join t fields) (join_field-stays table f clear (low f (inl refl)) (h f (inl refl)))
    ∙ join-stays table fields clear (λ g k. low g (inr k)) (λ g k. h g (inr k))

-- what documents ask for leaves bit 80 clear
pub clear-fields_of : (docs : List Document) → IsClear (flat_map fields_of docs)
clear-fields_of docs f h =
    let d = from_flat_map fields_of f docs h in
    elim (in_either f (map stored_field d.0.stored) (map indexed_field d.0.indexed) d.2) [
      | inl k ↦ let v = from_map stored_field f d.0.stored k in subst (λ (g : TableField). g.bits < 128) (sym v.2) (let low : 16 < 128 = lit< tt in low)
      | inr k ↦ let v = from_map indexed_field f d.0.indexed k in subst (λ (g : TableField). g.bits < 128) (sym v.2) (asked_bits-lt v.0.vector (is_some v.0.norm) v.0.omit_tf (has_payloads v.0))
    ]

clear-join_field : (table : List TableField) (new : TableField) → IsClear table → new.bits < 128 → IsClear (join_field table new)
unfolding join_field
clear-join_field [] new clear low f (inl e) = subst (λ (g : TableField). g.bits < 128) (sym e) low
clear-join_field [] new clear low f (inr k) = absurd k
clear-join_field (old ∷ table) new clear low f h =
    elim (bytes_eq new.name old.name) as (λ b. IsIn f (cond b (record { name = old.name; bits = join_bits old.bits new.bits } ∷ table) (old ∷ join_field table new)) → f.bits < 128) [
      | true ↦ λ h. elim h [ inl e ↦ subst (λ (g : TableField). g.bits < 128) (sym e) (join_bits-lt old.bits new.bits (clear old (inl refl)) low) | inr k ↦ clear f (inr k) ]
      | false ↦ λ h. elim h [ inl e ↦ clear f (inl e) | inr k ↦ clear-join_field table new (λ g q. clear g (inr q)) low f k ]
    ] h

pub clear-join : (table fields : List TableField) → IsClear table → IsClear fields → IsClear (join table fields)
clear-join table [] clear low = clear
clear-join table (f ∷ fields) clear low = clear-join (join_field table f) fields (clear-join_field table f clear (low f (inl refl))) (λ g k. low g (inr k))

pub clear-joins : (table : List TableField) (tables : List (List TableField)) → IsClear table → ((t : List TableField) → IsIn t tables → IsClear t) → IsClear (fold join table tables)
clear-joins table [] clear low = clear
clear-joins table (t ∷ tables) clear low = clear-joins (join table t) tables (clear-join table t clear (low t (inl refl))) (λ u k. low u (inr k))

-- a table that has the fields of documents covers them
pub covers-from_fields : (table : List TableField) (docs : List Document) → IsClear table → ((doc : Document) → IsIn doc docs → HasFields table doc) → Covers table docs
covers-from_fields table docs clear h =
    join-stays table (flat_map fields_of docs) clear (clear-fields_of docs) (λ f k. let d = from_flat_map fields_of f docs k in h d.0 d.1 f d.2)

-- the table of documents covers them
pub table_of-covers : (docs : List Document) → Covers (table_of docs) docs
table_of-covers docs =
    covers-from_fields (table_of docs) docs (clear-join [] (flat_map fields_of docs) (λ f k. absurd k) (clear-fields_of docs))
    (λ doc h f k. Has-join [] (flat_map fields_of docs) f (in_flat_map fields_of doc f docs h k))
