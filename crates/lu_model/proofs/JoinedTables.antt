-- Names of joined tables.
use Rattle.std.proofs.Common.{◌≡◌, ◌≢◌, ℕ, true, false, cond, List, [], ◌∷◌, map, refl, sym, ◌∙◌, inl, inr}
use Rattle.std.specs.List.{fold}
use Rattle.std.specs.Str.{bytes_eq}
use Rattle.std.specs.Cmp.Lexicographic.{bytes_decides}
use mathlib.Core.Bool.{true≢false}
use Rattle.lu_types.specs.Tables.{TableField}
use Rattle.lu_types.specs.Joins.{join_bits, join_field, join}
use Rattle.lu_model.proofs.Words.{IsIn, Each, EachPair}

abbrev names_of : List TableField → List (List ℕ)
names_of table = map (λ field. field.name) table

-- ---- names

module _ (P : List ℕ → Type 0) where
  names-join_field : (table : List TableField) (new : TableField) → Each (λ f. P f.name) table → P new.name → Each (λ f. P f.name) (join_field table new)
  unfolding join_field
  names-join_field [] new h p = (p, tt)
  names-join_field (old ∷ table) new h p =
      elim (bytes_eq new.name old.name) as (λ b. Each (λ (f : TableField). P f.name) (cond b (record { name = old.name; bits = join_bits old.bits new.bits } ∷ table) (old ∷ join_field table new))) [
        | true ↦ h
        | false ↦ (h.0, names-join_field table new h.1 p)
      ]

  pub names-join : (table fields : List TableField) → Each (λ f. P f.name) table → Each (λ f. P f.name) fields → Each (λ f. P f.name) (join table fields)
  names-join table [] h k = h
  names-join table (f ∷ fields) h k = names-join (join_field table f) fields (names-join_field table f h k.0) k.1

  pub names-joins : (table : List TableField) (tables : List (List TableField)) → Each (λ f. P f.name) table → ((t : List TableField) → IsIn t tables → Each (λ f. P f.name) t) → Each (λ f. P f.name) (fold join table tables)
  names-joins table [] h k = h
  names-joins table (t ∷ tables) h k = names-joins (join table t) tables (names-join table t h (k t (inl refl))) (λ u q. k u (inr q))

-- no two fields have one name
abbrev pub Apart : List TableField → Type 0
Apart table = EachPair (λ f g. f.name ≢ g.name) table

apart-join_field : (table : List TableField) (new : TableField) → Apart table → Apart (join_field table new)
unfolding join_field
apart-join_field [] new h = (tt, tt)
apart-join_field (old ∷ table) new h =
    elim (bytes_eq new.name old.name) as (λ b. bytes_eq new.name old.name ≡ b → Apart (cond b (record { name = old.name; bits = join_bits old.bits new.bits } ∷ table) (old ∷ join_field table new))) [
      | true ↦ λ t. h
      | false ↦ λ t. (
        names-join_field (λ name. old.name ≢ name) table new h.0 (λ e. true≢false (sym ((bytes_decides new.name old.name).1 (sym e)) ∙ t)),
        apart-join_field table new h.1,
      )
    ] refl

pub apart-join : (table fields : List TableField) → Apart table → Apart (join table fields)
apart-join table [] h = h
apart-join table (f ∷ fields) h = apart-join (join_field table f) fields (apart-join_field table f h)

pub apart-joins : (table : List TableField) (tables : List (List TableField)) → Apart table → Apart (fold join table tables)
apart-joins table [] h = h
apart-joins table (t ∷ tables) h = apart-joins (join table t) tables (apart-join table t h)
