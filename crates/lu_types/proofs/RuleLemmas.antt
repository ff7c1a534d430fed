-- Names in tables of rules.
use Rattle.std.proofs.Common.{◌≡◌, ℕ, Bool, true, false, List, [], ◌∷◌, ◌++◌, Option, Some, None, Bor, refl, ◌∙◌, sym, ap, nat_eq, cond}
use Rattle.std.specs.Option.{option_or, option_copied}
use Rattle.lu_types.specs.Rules.{name_in}

-- a choice before another choice
or_cond : (b : Bool) (name : List ℕ) (first then : Option (List ℕ)) (both : Option (List ℕ)) → both ≡ option_or first then → cond b (Some name) both ≡ option_or (cond b (Some name) first) then
or_cond true name first then both e = refl
or_cond false name first then both e = e

-- a name in two tables, one after the other, is that of the first table, or else that of the second
pub name_in-append : (xs ys : List (ℕ × List ℕ)) (rule : ℕ) → name_in (xs ++ ys) rule ≡ option_or (name_in xs rule) (name_in ys rule)
name_in-append [] ys rule = refl
name_in-append (x ∷ xs) ys rule = or_cond (nat_eq rule x.0) x.1 (name_in xs rule) (name_in ys rule) (name_in (xs ++ ys) rule) (name_in-append xs ys rule)

-- a choice of two references points to a choice of what they point to
copied_or : (first then : Option (Bor (List ℕ))) → option_copied (option_or first then) ≡ option_or (option_copied first) (option_copied then)
copied_or None then = refl
copied_or (Some name) then = refl

-- what two functions give for two tables, asked in turn, is what both tables give
pub in_both : (rule : ℕ) (xs ys : List (ℕ × List ℕ)) (first then both : Option (Bor (List ℕ))) → both ≡ option_or first then → option_copied first ≡ name_in xs rule → option_copied then ≡ name_in ys rule → option_copied both ≡ name_in (xs ++ ys) rule
in_both rule xs ys first then both choice in_xs in_ys =
    ap option_copied choice ∙ copied_or first then ∙ ap (λ name. option_or name (option_copied then)) in_xs ∙ ap (option_or (name_in xs rule)) in_ys ∙ sym (name_in-append xs ys rule)
