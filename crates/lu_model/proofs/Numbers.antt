-- The number of a field stays when more fields are joined.
use Rattle.std.proofs.Common.{◌≡◌, ℕ, suc, true, false, cond, List, [], ◌∷◌, Option, Some, None, length, refl, sym, ap, ◌∙◌}
use Rattle.std.specs.Prelude.{nat_lt, option_map}
use Rattle.std.specs.Str.{bytes_eq}
use Rattle.lu_types.proofs.JoinLemmas.{joined, number_of-cons}
use Rattle.lu_types.specs.Joins.{join, join_field}
use Rattle.lu_types.specs.Tables.{TableField, number_of}
use Rattle.lu_model.specs.Contents.{field_number}

next_is : (o : Option ℕ) (n : ℕ) → option_map suc o ≡ Some n → (m : ℕ) × (o ≡ Some m) × (n ≡ suc m)
next_is None n e = cc
next_is (Some m) n e = let same : suc m ≡ n = cc in (m, refl, sym same)

-- where a name has a number, that is its place
pub place_of-number : (name : List ℕ) (table : List TableField) (n : ℕ) → number_of name table ≡ Some n → field_number name table ≡ n
place_of-number name table n e = at (nat_lt (field_number name table) (length table)) e
  where
    at : (b : _) → cond b (Some (field_number name table)) None ≡ Some n → field_number name table ≡ n
    at true e = cc
    at false e = cc

stays_in_field : (name : List ℕ) (table : List TableField) (new : TableField) (n : ℕ) → number_of name table ≡ Some n → number_of name (join_field table new) ≡ Some n
unfolding join_field
stays_in_field name [] new n e = cc
stays_in_field name (old ∷ table) new n e =
    let here = sym (number_of-cons name old table) ∙ e in
    elim (bytes_eq new.name old.name) as (λ b. number_of name (cond b (joined old new ∷ table) (old ∷ join_field table new)) ≡ Some n) [
      | true ↦ number_of-cons name (joined old new) table ∙ here
      | false ↦ number_of-cons name old (join_field table new) ∙ elim (bytes_eq name old.name) as (λ b. cond b (Some 0) (option_map suc (number_of name table)) ≡ Some n → cond b (Some 0) (option_map suc (number_of name (join_field table new))) ≡ Some n) [
        | true ↦ λ q. q
        | false ↦ λ q. let m = next_is (number_of name table) n q in ap (option_map suc) (stays_in_field name table new m.0 m.1) ∙ ap (λ k. let o : Option ℕ = Some k in o) (sym m.2)
      ] here
    ]

pub number_stays : (name : List ℕ) (table fields : List TableField) (n : ℕ) → number_of name table ≡ Some n → number_of name (join table fields) ≡ Some n
number_stays name table [] n e = e
number_stays name table (f ∷ fields) n e = number_stays name (join_field table f) fields n (stays_in_field name table f n e)
