-- Items of lists that are made of others.
use Rattle.std.proofs.Common.{◌≡◌, ◌⊎◌, ℕ, zero, suc, ◌<◌, Bool, true, false, cond, List, [], ◌∷◌, ◌++◌, length, map, refl, sym, ap, ◌∙◌, subst, inl, inr, arith}
use Rattle.std.specs.Prelude.{filter, flat_map, Contains, slice_index_or}
use Rattle.lu_model.proofs.Words.{IsIn}

module _ {X : Type 0} where
  pub in_left : (x : X) (xs ys : List X) → IsIn x xs → IsIn x (xs ++ ys)
  in_left x [] ys h = absurd h
  in_left x (z ∷ xs) ys (inl e) = inl e
  in_left x (z ∷ xs) ys (inr h) = inr (in_left x xs ys h)

  pub in_right : (x : X) (xs ys : List X) → IsIn x ys → IsIn x (xs ++ ys)
  in_right x [] ys h = h
  in_right x (z ∷ xs) ys h = inr (in_right x xs ys h)

  pub in_either : (x : X) (xs ys : List X) → IsIn x (xs ++ ys) → IsIn x xs ⊎ IsIn x ys
  in_either x [] ys h = inr h
  in_either x (z ∷ xs) ys (inl e) = inl (inl e)
  in_either x (z ∷ xs) ys (inr h) = elim (in_either x xs ys h) [ inl p ↦ inl (inr p) | inr p ↦ inr p ]

  pub in_filter : (p : X → Bool) (x : X) (xs : List X) → IsIn x xs → p x ≡ true → IsIn x (filter p xs)
  in_filter p x [] h t = absurd h
  in_filter p x (z ∷ xs) (inl e) t = subst (λ b. IsIn x (cond b (z ∷ filter p xs) (filter p xs))) (sym (ap p (sym e) ∙ t)) (inl e)
  in_filter p x (z ∷ xs) (inr h) t =
      elim (p z) as (λ b. IsIn x (cond b (z ∷ filter p xs) (filter p xs))) [ true ↦ inr (in_filter p x xs h t) | false ↦ in_filter p x xs h t ]

  pub from_filter : (p : X → Bool) (x : X) (xs : List X) → IsIn x (filter p xs) → IsIn x xs × (p x ≡ true)
  from_filter p x [] h = absurd h
  from_filter p x (z ∷ xs) h =
      elim (p z) as (λ b. p z ≡ b → IsIn x (cond b (z ∷ filter p xs) (filter p xs)) → (IsIn x (z ∷ xs)) × (p x ≡ true)) [
        | true ↦ λ t h. elim h [ inl e ↦ (inl e, ap p e ∙ t) | inr h ↦ let r = from_filter p x xs h in (inr r.0, r.1) ]
        | false ↦ λ t h. let r = from_filter p x xs h in (inr r.0, r.1)
      ] refl h

module _ {X Y : Type 0} (f : X → Y) where
  pub in_map : (x : X) (xs : List X) → IsIn x xs → IsIn (f x) (map f xs)
  in_map x [] h = absurd h
  in_map x (z ∷ xs) (inl e) = inl (ap f e)
  in_map x (z ∷ xs) (inr h) = inr (in_map x xs h)

  pub from_map : (y : Y) (xs : List X) → IsIn y (map f xs) → (x : X) × IsIn x xs × (y ≡ f x)
  from_map y [] h = absurd h
  from_map y (z ∷ xs) (inl e) = (z, inl refl, e)
  from_map y (z ∷ xs) (inr h) = let r = from_map y xs h in (r.0, inr r.1, r.2)

module _ {X Y : Type 0} (f : X → List Y) where
  pub in_flat_map : (x : X) (y : Y) (xs : List X) → IsIn x xs → IsIn y (f x) → IsIn y (flat_map f xs)
  in_flat_map x y [] h k = absurd h
  in_flat_map x y (z ∷ xs) (inl e) k = in_left y (f z) (flat_map f xs) (subst (λ w. IsIn y (f w)) e k)
  in_flat_map x y (z ∷ xs) (inr h) k = in_right y (f z) (flat_map f xs) (in_flat_map x y xs h k)

  pub from_flat_map : (y : Y) (xs : List X) → IsIn y (flat_map f xs) → (x : X) × IsIn x xs × IsIn y (f x)
  from_flat_map y [] h = absurd h
  from_flat_map y (z ∷ xs) h =
      elim (in_either y (f z) (flat_map f xs) h) [
        | inl k ↦ (z, inl refl, k)
        | inr k ↦ let r = from_flat_map y xs k in (r.0, inr r.1, r.2)
      ]

-- ---- items by place

module _ {X : Type 0} where
  at_place : (x : X) (xs : List X) (k : ℕ) → k < length xs → slice_index_or xs k x ≡ x → IsIn x xs
  at_place x [] k h e = absurd (omega arith)
  at_place x (y ∷ xs) zero h e = inl (sym e)
  at_place x (y ∷ xs) (suc k) h e = inr (at_place x xs k (omega arith) e)

  pub in-from_contains : (x : X) (xs : List X) → Contains xs x → IsIn x xs
  in-from_contains x xs c = at_place x xs c.0 c.1 c.2

  pub contains-from_in : (x : X) (xs : List X) → IsIn x xs → Contains xs x
  contains-from_in x [] h = absurd h
  contains-from_in x (y ∷ xs) (inl e) = (0, omega arith, sym e)
  contains-from_in x (y ∷ xs) (inr h) = let r = contains-from_in x xs h in let low = r.1 in (suc r.0, omega arith, r.2)
