-- Numbers of names in a table to which a field is added.
use Rattle.std.proofs.Common.{◌≡◌, ◌≢◌, ℕ, ◌<◌, ◌≤◌, ◌^◌, ◌-◌, Bool, true, false, not, List, [], ◌∷◌, ◌++◌, Option, Some, None, refl, sym, ◌∙◌, ap, subst, cond, arith, length, get_or, Bor, BTreeMap, ltb-true}
use mathlib.Core.Bool.{true≢false}
use Rattle.std.specs.Prelude.{IfSome, nat_lt}
use Rattle.std.specs.List.{position, position_or_len}
use Rattle.std.specs.Option.{option_or}
use Rattle.std.specs.Map.{update}
use Rattle.std.specs.BTreeMap.{UpdatesBy}
use Rattle.std.specs.Cmp.Lexicographic.{slice_cmp, bytes_decides, nat_list_eq_equiv}
use Rattle.std.specs.Ordering.{nat_cmp}
use Rattle.std.specs.Str.{bytes_eq}
use Rattle.std.proofs.lemmas.Grind.{common_steps}
use Rattle.std.proofs.lemmas.List.{length_push}
use Rattle.std.proofs.lemmas.List.Elements.{All-push}
use Rattle.std.proofs.lemmas.List.Folds.{position_or_len_push}
use Rattle.std.proofs.lemmas.List.Quantifiers.{all_pairs_push}
use Rattle.std.proofs.lemmas.List.Sums.{prefix_len-le-length, fails_before_first}
use Rattle.std.proofs.lemmas.Map.Text.{btree_map_updates_str}
use Rattle.lu_types.specs.Tables.{TableField, number_of, IsTable, HasNumbers}

-- where the first element that passes stands after one more element
pub position_push : {X : Type 0} (p : X → Bool) (xs : List X) (y : X) → position p (xs ++ y ∷ []) ≡ option_or (position p xs) (cond (p y) (Some (length xs)) None)
position_push p xs y = grind (arith, common_steps, position_or_len_push p xs y, prefix_len-le-length (λ x. not (p x)) xs, length_push xs y)

-- where no element passes, none does
pub fails_from_none : {X : Type 0} (p : X → Bool) (xs : List X) (k : ℕ) (d : X) → position p xs ≡ None → k < length xs → p (get_or xs k d) ≡ false
fails_from_none p xs k d none within =
    let passes_none : length xs ≤ position_or_len p xs = grind (arith, common_steps) in
    fails_before_first p xs k d (omega arith)

-- a number that a name has is below the number of fields
pub number_of-lt : (name : List ℕ) (fields : List TableField) → IfSome (number_of name fields) (λ number. number < length fields)
number_of-lt name fields = at_test (position_or_len (λ (f : TableField). bytes_eq name f.name) fields) (nat_lt (position_or_len (λ (f : TableField). bytes_eq name f.name) fields) (length fields)) refl
  where
    at_test : (n : ℕ) (b : Bool) → nat_lt n (length fields) ≡ b → IfSome (cond b (Some n) None) (λ number. number < length fields)
    at_test n true less = ltb-true n (length fields) less
    at_test n false less = tt

or_none : {X : Type 0} (o : Option X) → option_or o None ≡ o
or_none None = refl
or_none (Some x) = refl

-- a new name is the last, and other names keep their numbers
pub number_of_push : (name : List ℕ) (bits : ℕ) (fields : List TableField) → number_of name fields ≡ None → (q : List ℕ) → update bytes_eq (λ r. number_of r fields) name (Some (length fields)) q ≡ number_of q (fields ++ record { name = name; bits = bits } ∷ [])
number_of_push name bits fields new q = sym (position_push _ fields (record { name = name; bits = bits }) ∙ at_test (bytes_eq name q) refl)
  where
    at_test : (b : Bool) → bytes_eq name q ≡ b → option_or (number_of q fields) (cond (bytes_eq q name) (Some (length fields)) None) ≡ cond b (Some (length fields)) (number_of q fields)
    at_test true same =
        let turned : bytes_eq q name ≡ true = nat_list_eq_equiv.symm q name ∙ same in
        let none : number_of q fields ≡ None = subst (λ r. number_of r fields ≡ None) ((bytes_decides name q).0 same) new in
        rw (none, turned) refl
    at_test false differs =
        let turned : bytes_eq q name ≡ false = nat_list_eq_equiv.symm q name ∙ differs in
        rw turned (or_none (number_of q fields))

-- a new name has the number of fields before
pub number_of-new : (name : List ℕ) (bits : ℕ) (fields : List TableField) → number_of name fields ≡ None → number_of name (fields ++ record { name = name; bits = bits } ∷ []) ≡ Some (length fields)
number_of-new name bits fields new = sym (number_of_push name bits fields new name) ∙ ap (λ b. cond b (Some (length fields)) (number_of name fields)) ((bytes_decides name name).1 refl)

-- a table with one more field
pub IsTable_push : (name : List ℕ) (bits : ℕ) (fields : List TableField) → number_of name fields ≡ None → bits < 128 → length fields < 2 ^ 31 - 1 → IsTable fields → IsTable (fields ++ record { name = name; bits = bits } ∷ [])
IsTable_push name bits fields new clear room table = record {
  few = omega (arith, length_push fields (record { name = name; bits = bits }));
  clear = All-push (λ field. field.bits < 128) fields _ table.clear clear;
  apart = all_pairs_push (λ field later. field.name ≢ later.name) fields _ table.apart (λ k d within same.
      let fails : bytes_eq name (get_or fields k d).name ≡ false = fails_from_none _ fields k d new within in
      let equal : bytes_eq name (get_or fields k d).name ≡ true = (bytes_decides _ _).1 (sym same) in
      absurd (true≢false (sym equal ∙ fails)));
}

-- a map to which the new name and its number are added
pub HasNumbers_push : (name : Bor (List ℕ)) (bits number : ℕ) (fields : List TableField) (before after : BTreeMap (Bor (List ℕ)) ℕ) → number_of name.now fields ≡ None → number ≡ length fields → HasNumbers before fields → UpdatesBy (λ x y. slice_cmp nat_cmp x.now y.now) (λ key. slice_cmp nat_cmp name.now key.now) before after (Some number) → HasNumbers after (fields ++ record { name = name.now; bits = bits } ∷ [])
HasNumbers_push name bits number fields before after new is_last numbers updates q =
    btree_map_updates_str name.now before after (Some number) updates q ∙ ap (cond (bytes_eq name.now q) (Some number)) (numbers q)
    ∙ ap (λ n. cond (bytes_eq name.now q) (Some n) (number_of q fields)) is_last ∙ number_of_push name.now bits fields new q
