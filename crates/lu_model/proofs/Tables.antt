-- What a table says of fields that were joined to it.
use Rattle.std.proofs.Common.{◌≡◌, ℕ, ◌+◌, Bool, true, false, not, cond, List, [], ◌∷◌, Option, Some, None, refl, sym, ap, ◌∙◌, subst, inl, inr}
use Rattle.std.specs.Prelude.{unwrap_or, slice_index_or}
use Rattle.std.specs.List.{find, fold}
use Rattle.std.specs.Str.{bytes_eq}
use Rattle.std.specs.Cmp.Lexicographic.{bytes_decides}
use Rattle.std.proofs.Math.Numerals.{one-add}
use Rattle.lu_types.specs.Bits.{has_bit}
use Rattle.lu_types.specs.Tables.{TableField}
use Rattle.lu_types.specs.Bits as bit
use Rattle.lu_model.specs.Contents.{bits_of, field_at, field_number}
use Rattle.lu_model.proofs.Words.{IsIn, no_field}
use Rattle.lu_types.specs.Joins.{join_bits, join_field, join}
use Rattle.lu_model.proofs.Bits.{Says, Says-join_old, Says-join_new, Says-trans}

-- the first item that passes is in the list, and passes
pub find_in : {X : Type 0} (p : X → Bool) (x : X) (xs : List X) → find p xs ≡ Some x → IsIn x xs × (p x ≡ true)
find_in p x [] e = cc
find_in {X} p x (y ∷ xs) e =
    elim (p y) as (λ b. p y ≡ b → cond b (Some y) (find p xs) ≡ Some x → (IsIn x (y ∷ xs)) × (p x ≡ true)) [
      | true ↦ λ t e. let same : y ≡ x = cc in (inl (sym same), subst (λ w. p w ≡ true) same t)
      | false ↦ λ t e. let r = find_in p x xs e in (inr r.0, r.1)
    ] refl e

pub same_name : (a : List ℕ) → bytes_eq a a ≡ true
same_name a = (bytes_decides a a).1 refl

-- the field that has the name
abbrev pub named : List ℕ → List TableField → Option TableField
named name table = find (λ field. bytes_eq name field.name) table

-- the field at the number of a name is the field that has the name
pub at_number : (name : List ℕ) (table : List TableField) → field_at (field_number name table) table ≡ unwrap_or (named name table) no_field
at_number name [] = refl
at_number name (field ∷ table) =
    elim (bytes_eq name field.name) as (λ b. slice_index_or (field ∷ table) (cond (not b) (1 + field_number name table) 0) no_field ≡ unwrap_or (cond b (Some field) (named name table)) no_field) [
      | true ↦ refl
      | false ↦ ap (λ n. slice_index_or (field ∷ table) n no_field) (one-add (field_number name table)) ∙ at_number name table
    ]

-- the table has the field, and says what it asks for
pub record Has (table : List TableField) (asked : TableField) : Type 0 where
  pub field : TableField
  pub found : named asked.name table ≡ Some field
  pub says : has_bit bit.indexed asked.bits ≡ true → Says field.bits asked.bits

-- the field at the number of the name
pub at_number-Has : (table : List TableField) (asked : TableField) (h : Has table asked) → field_at (field_number asked.name table) table ≡ h.field
at_number-Has table asked h = at_number asked.name table ∙ ap (λ f. unwrap_or f no_field) h.found

pub name-Has : (table : List TableField) (asked : TableField) (h : Has table asked) → h.field.name ≡ asked.name
name-Has table asked h = sym ((bytes_decides asked.name h.field.name).0 (find_in (λ field. bytes_eq asked.name field.name) h.field table h.found).1)

pub name_at-Has : (table : List TableField) (asked : TableField) → Has table asked → (field_at (field_number asked.name table) table).name ≡ asked.name
name_at-Has table asked h = ap (λ f. f.name) (at_number-Has table asked h) ∙ name-Has table asked h

pub bits-Has : (table : List TableField) (asked : TableField) (h : Has table asked) → bits_of asked.name table ≡ h.field.bits
bits-Has table asked h = ap (λ f. f.bits) (at_number-Has table asked h)

pub Says-Has : (table : List TableField) (asked : TableField) → Has table asked → has_bit bit.indexed asked.bits ≡ true → Says (bits_of asked.name table) asked.bits
Says-Has table asked h i = subst (λ b. Says b asked.bits) (sym (bits-Has table asked h)) (h.says i)

abbrev joined : TableField → TableField → TableField
joined old new = record { name = old.name; bits = join_bits old.bits new.bits }

-- a field that the table has is there after another is joined
pub Has-join_old : (table : List TableField) (new asked : TableField) → Has table asked → Has (join_field table new) asked
unfolding join_field
Has-join_old [] new asked h = let e = h.found in cc
Has-join_old (old ∷ table) new asked h =
    elim (bytes_eq new.name old.name) as (λ b. Has (cond b (joined old new ∷ table) (old ∷ join_field table new)) asked) [
      | true ↦
          elim (bytes_eq asked.name old.name) as (λ b. bytes_eq asked.name old.name ≡ b → cond b (Some old) (named asked.name table) ≡ Some h.field → Has (joined old new ∷ table) asked) [
            | true ↦ λ t e. let same : old ≡ h.field = cc in record {
              field = joined old new;
              found = ap (λ b. cond b (Some (joined old new)) (named asked.name table)) t;
              says = λ i. Says-join_old old.bits new.bits asked.bits (subst (λ f. Says f.bits asked.bits) (sym same) (h.says i));
            }
            | false ↦ λ t e. record {
              field = h.field;
              found = ap (λ b. cond b (Some (joined old new)) (named asked.name table)) t ∙ e;
              says = h.says;
            }
          ] refl h.found
      | false ↦
          elim (bytes_eq asked.name old.name) as (λ b. bytes_eq asked.name old.name ≡ b → cond b (Some old) (named asked.name table) ≡ Some h.field → Has (old ∷ join_field table new) asked) [
            | true ↦ λ t e. record {
              field = h.field;
              found = ap (λ b. cond b (Some old) (named asked.name (join_field table new))) t ∙ e;
              says = h.says;
            }
            | false ↦ λ t e. let r = Has-join_old table new asked (record { field = h.field; found = e; says = h.says }) in record {
              field = r.field;
              found = ap (λ b. cond b (Some old) (named asked.name (join_field table new))) t ∙ r.found;
              says = r.says;
            }
          ] refl h.found
    ]

-- the table has a field that is joined to it
pub Has-join_new : (table : List TableField) (new : TableField) → Has (join_field table new) new
unfolding join_field
Has-join_new [] new = record { field = new; found = ap (λ b. cond b (Some new) None) (same_name new.name); says = λ i. record { indexed = i; vectors = λ e. e; positions = λ e. e; offsets = λ e. e; payloads = λ e. e; omit_tf = λ e. e; norms = λ e. e } }
Has-join_new (old ∷ table) new =
    elim (bytes_eq new.name old.name) as (λ b. bytes_eq new.name old.name ≡ b → Has (cond b (joined old new ∷ table) (old ∷ join_field table new)) new) [
      | true ↦ λ t. record {
        field = joined old new;
        found = ap (λ b. cond b (Some (joined old new)) (named new.name table)) t;
        says = λ i. Says-join_new old.bits new.bits i;
      }
      | false ↦ λ t. let r = Has-join_new table new in record {
        field = r.field;
        found = ap (λ b. cond b (Some old) (named new.name (join_field table new))) t ∙ r.found;
        says = r.says;
      }
    ] refl

pub Has-join_kept : (table fields : List TableField) (asked : TableField) → Has table asked → Has (join table fields) asked
Has-join_kept table [] asked h = h
Has-join_kept table (field ∷ fields) asked h = Has-join_kept (join_field table field) fields asked (Has-join_old table field asked h)

pub Has-join : (table fields : List TableField) (asked : TableField) → IsIn asked fields → Has (join table fields) asked
Has-join table [] asked h = absurd h
Has-join table (field ∷ fields) asked (inl e) = Has-join_kept (join_field table field) fields asked (subst (Has (join_field table field)) (sym e) (Has-join_new table field))
Has-join table (field ∷ fields) asked (inr h) = Has-join (join_field table field) fields asked h

Has-joins_kept : (table : List TableField) (tables : List (List TableField)) (asked : TableField) → Has table asked → Has (fold join table tables) asked
Has-joins_kept table [] asked h = h
Has-joins_kept table (more ∷ tables) asked h = Has-joins_kept (join table more) tables asked (Has-join_kept table more asked h)

-- joined tables have each field of each
pub Has-joins : (table : List TableField) (tables : List (List TableField)) (one : List TableField) (asked : TableField) → IsIn one tables → IsIn asked one → Has (fold join table tables) asked
Has-joins table [] one asked h k = absurd h
Has-joins table (more ∷ tables) one asked (inl e) k = Has-joins_kept (join table more) tables asked (Has-join table more asked (subst (IsIn asked) e k))
Has-joins table (more ∷ tables) one asked (inr h) k = Has-joins (join table more) tables one asked h k

-- what one table has that another has
pub Has-trans : (table one : List TableField) (asked : TableField) → ((field : TableField) → IsIn field one → Has table field) → Has one asked → Has table asked
Has-trans table one asked each h =
    let inside : IsIn h.field one = (find_in (λ field. bytes_eq asked.name field.name) h.field one h.found).0 in
    let above : Has table h.field = each h.field inside in record {
      field = above.field;
      found = subst (λ name. named name table ≡ Some above.field) (name-Has one asked h) above.found;
      says = λ i. Says-trans above.field.bits h.field.bits asked.bits (above.says (h.says i).indexed) (h.says i);
    }
