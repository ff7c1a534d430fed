-- Lists in order: the list made of given items rises, has exactly these items, and is the only one that does.
use Rattle.std.proofs.Common.{◌≡◌, ◌⊎◌, List, [], ◌∷◌, refl, sym, ap, ◌∙◌, subst, inl, inr}
use Rattle.std.specs.Prelude.{}
use Rattle.std.specs.declared.cmp.Ordering.{Ordering}
use Rattle.std.specs.declared.cmp.Ordering.TheVariants.{Less, Equal, Greater}
use Rattle.std.specs.Ordering.{ordering_reverse, match_ordering}
use Rattle.std.specs.Cmp.{IsTotalOrder}
use Rattle.std.specs.List.{AllByRecursion, fold}
use Rattle.std.specs.List.Sorted.{IsStrictlySortedBy}
use Rattle.std.specs.BTreeSet.{insert_key}
use Rattle.lu_model.specs.Index.{in_order}
use Rattle.lu_model.proofs.Words.{IsIn, HaveSame}

Less≢Greater : Less ≡ Greater → ⊥
Less≢Greater e = cc

Less≢Equal : Less ≡ Equal → ⊥
Less≢Equal e = cc

module _ {X : Type 0} (cmp : X → X → Ordering) (order : IsTotalOrder cmp) where
  turned : (x y : X) → cmp x y ≡ Greater → cmp y x ≡ Less
  turned x y e = order.antisymm y x ∙ ap ordering_reverse e

  pub not_below_itself : (x : X) → cmp x x ≡ Less → ⊥
  not_below_itself x e = Less≢Greater (sym e ∙ order.antisymm x x ∙ ap ordering_reverse e)

  -- what is below the first of these is below all
  below_all : (x y : X) (ys : List X) → cmp x y ≡ Less → AllByRecursion (λ z. cmp y z ≡ Less) ys → AllByRecursion (λ z. cmp x z ≡ Less) ys
  below_all x y [] e h = tt
  below_all x y (z ∷ ys) e h = (order.trans x y z e h.0, below_all x y ys e h.1)

  below_insert : (w x : X) (ys : List X) → cmp w x ≡ Less → AllByRecursion (λ z. cmp w z ≡ Less) ys → AllByRecursion (λ z. cmp w z ≡ Less) (insert_key cmp ys x)
  below_insert w x [] e h = (e, tt)
  below_insert w x (y ∷ ys) e h =
      elim (cmp x y) as (λ o. AllByRecursion (λ z. cmp w z ≡ Less) (match_ordering o (x ∷ y ∷ ys) (y ∷ ys) (y ∷ insert_key cmp ys x))) [
        | Less ↦ (e, h)
        | Equal ↦ h
        | Greater ↦ (h.0, below_insert w x ys e h.1)
      ]

  pub rises-insert : (x : X) (ys : List X) → IsStrictlySortedBy cmp ys → IsStrictlySortedBy cmp (insert_key cmp ys x)
  unfolding IsStrictlySortedBy
  rises-insert x [] h = (tt, tt)
  rises-insert x (y ∷ ys) h =
      elim (cmp x y) as (λ o. cmp x y ≡ o → IsStrictlySortedBy cmp (match_ordering o (x ∷ y ∷ ys) (y ∷ ys) (y ∷ insert_key cmp ys x))) [
        | Less ↦ λ e. ((e, below_all x y ys e h.0), h)
        | Equal ↦ λ e. h
        | Greater ↦ λ e. (below_insert y x ys (turned x y e) h.0, rises-insert x ys h.1)
      ] refl

  abbrev filled : List X → List X → List X
  filled ys xs = fold (insert_key cmp) ys xs

  rises-filled : (ys xs : List X) → IsStrictlySortedBy cmp ys → IsStrictlySortedBy cmp (filled ys xs)
  rises-filled ys [] h = h
  rises-filled ys (x ∷ xs) h = rises-filled (insert_key cmp ys x) xs (rises-insert x ys h)

  -- the list in order rises
  pub rises-in_order : (xs : List X) → IsStrictlySortedBy cmp (in_order cmp xs)
  unfolding in_order IsStrictlySortedBy
  rises-in_order xs = rises-filled [] xs tt

  from_insert : (z x : X) (ys : List X) → IsIn z (insert_key cmp ys x) → IsIn z (x ∷ ys)
  from_insert z x [] h = h
  from_insert z x (y ∷ ys) h =
      elim (cmp x y) as (λ o. IsIn z (match_ordering o (x ∷ y ∷ ys) (y ∷ ys) (y ∷ insert_key cmp ys x)) → IsIn z (x ∷ y ∷ ys)) [
        | Less ↦ λ h. h
        | Equal ↦ λ h. inr h
        | Greater ↦ λ h. elim h [ inl e ↦ inr (inl e) | inr k ↦ elim (from_insert z x ys k) [ inl e ↦ inl e | inr k ↦ inr (inr k) ] ]
      ] h

  from_filled : (z : X) (ys xs : List X) → IsIn z (filled ys xs) → IsIn z ys ⊎ IsIn z xs
  from_filled z ys [] h = inl h
  from_filled z ys (x ∷ xs) h = elim (from_filled z (insert_key cmp ys x) xs h) [
    | inl k ↦ elim (from_insert z x ys k) [ inl e ↦ inr (inl e) | inr q ↦ inl q ]
    | inr k ↦ inr (inr k)
  ]

  -- each item of the list in order is one of the items
  pub from_in_order : (z : X) (xs : List X) → IsIn z (in_order cmp xs) → IsIn z xs
  unfolding in_order
  from_in_order z xs h = elim (from_filled z [] xs h) [ inl k ↦ absurd k | inr k ↦ k ]

  insert_keeps : (z x : X) (ys : List X) → IsIn z ys → IsIn z (insert_key cmp ys x)
  insert_keeps z x [] h = absurd h
  insert_keeps z x (y ∷ ys) h =
      elim (cmp x y) as (λ o. IsIn z (match_ordering o (x ∷ y ∷ ys) (y ∷ ys) (y ∷ insert_key cmp ys x))) [
        | Less ↦ inr h
        | Equal ↦ h
        | Greater ↦ elim h [ inl e ↦ inl e | inr k ↦ inr (insert_keeps z x ys k) ]
      ]

  insert_has : (x : X) (ys : List X) → ((y : X) → IsIn y ys → cmp x y ≡ Equal → x ≡ y) → IsIn x (insert_key cmp ys x)
  insert_has x [] level = inl refl
  insert_has x (y ∷ ys) level =
      elim (cmp x y) as (λ o. cmp x y ≡ o → IsIn x (match_ordering o (x ∷ y ∷ ys) (y ∷ ys) (y ∷ insert_key cmp ys x))) [
        | Less ↦ λ e. inl refl
        | Equal ↦ λ e. inl (level y (inl refl) e)
        | Greater ↦ λ e. inr (insert_has x ys (λ z h. level z (inr h)))
      ] refl

  in_filled : (z : X) (ys xs : List X) → ((x y : X) → IsIn x xs → IsIn y ys ⊎ IsIn y xs → cmp x y ≡ Equal → x ≡ y) → IsIn z ys ⊎ IsIn z xs → IsIn z (filled ys xs)
  in_filled z ys [] level (inl h) = h
  in_filled z ys [] level (inr h) = absurd h
  in_filled z ys (x ∷ xs) level h =
      in_filled z (insert_key cmp ys x) xs
      (λ v w p q. level v w (inr p) (elim q [ inl k ↦ elim (from_insert w x ys k) [ inl e ↦ inr (inl e) | inr r ↦ inl r ] | inr k ↦ inr (inr k) ]))
      (elim h [
        | inl k ↦ inl (insert_keeps z x ys k)
        | inr k ↦ elim k [
          | inl e ↦ inl (subst (λ w. IsIn w (insert_key cmp ys x)) (sym e) (insert_has x ys (λ y q. level x y (inl refl) (inl q))))
          | inr q ↦ inr q
        ]
      ])

  -- each of the items is in the list in order, where items that tie are the same
  pub in_in_order : (z : X) (xs : List X) → ((x y : X) → IsIn x xs → IsIn y xs → cmp x y ≡ Equal → x ≡ y) → IsIn z xs → IsIn z (in_order cmp xs)
  unfolding in_order
  in_in_order z xs level h = in_filled z [] xs (λ x y p q. level x y p (elim q [ inl k ↦ absurd k | inr k ↦ k ])) (inr h)

  pub least : (x z : X) (xs : List X) → AllByRecursion (λ w. cmp x w ≡ Less) xs → IsIn z xs → cmp x z ≡ Less
  least x z [] h k = absurd k
  least x z (y ∷ xs) h (inl e) = ap (cmp x) e ∙ h.0
  least x z (y ∷ xs) h (inr k) = least x z xs h.1 k

  -- the rest has the same items, where the first items are the same
  rest_same : (x y : X) (xs ys : List X) → x ≡ y → AllByRecursion (λ w. cmp x w ≡ Less) xs → ((z : X) → IsIn z (x ∷ xs) → IsIn z (y ∷ ys)) → (z : X) → IsIn z xs → IsIn z ys
  rest_same x y xs ys e h to z k =
      elim (to z (inr k)) [ inl p ↦ absurd (not_below_itself x (ap (cmp x) (e ∙ sym p) ∙ least x z xs h k)) | inr q ↦ q ]

  -- only one rising list has given items
  pub one_rising : (xs ys : List X) → IsStrictlySortedBy cmp xs → IsStrictlySortedBy cmp ys → HaveSame xs ys → xs ≡ ys
  unfolding IsStrictlySortedBy
  one_rising [] [] h k same = refl
  one_rising [] (y ∷ ys) h k same = absurd (same.from y (inl refl))
  one_rising (x ∷ xs) [] h k same = absurd (same.to x (inl refl))
  one_rising (x ∷ xs) (y ∷ ys) h k same =
      let first : x ≡ y = elim (same.to x (inl refl)) [
        | inl e ↦ e
        | inr p ↦ elim (same.from y (inl refl)) [
          | inl e ↦ sym e
          | inr q ↦ absurd (not_below_itself x (order.trans x y x (least x y xs h.0 q) (least y x ys k.0 p)))
        ]
      ] in
      let rest : xs ≡ ys = one_rising xs ys h.1 k.1 (record { to = rest_same x y xs ys first h.0 same.to; from = rest_same y x ys xs (sym first) k.0 same.from }) in
      λ i. first i ∷ rest i

  -- the list in order is the only one that rises and has exactly these items, where items that tie are the same
  pub only_in_order : (xs ys : List X) → ((x y : X) → IsIn x xs → IsIn y xs → cmp x y ≡ Equal → x ≡ y) → IsStrictlySortedBy cmp ys → HaveSame ys xs → ys ≡ in_order cmp xs
  only_in_order xs ys level h same =
      one_rising ys (in_order cmp xs) h (rises-in_order xs) (record {
        to = λ x k. in_in_order x xs level (same.to x k);
        from = λ x k. same.from x (from_in_order x xs k);
      })

  -- lists with the same items are the same in order
  pub same-in_order : (xs ys : List X) → ((x y : X) → IsIn x ys → IsIn y ys → cmp x y ≡ Equal → x ≡ y) → HaveSame xs ys → in_order cmp xs ≡ in_order cmp ys
  same-in_order xs ys level same =
      only_in_order ys (in_order cmp xs) level (rises-in_order xs) (record {
        to = λ x k. same.to x (from_in_order x xs k);
        from = λ x k. in_in_order x xs (λ v w p q. level v w (same.to v p) (same.to w q)) (same.from x k);
      })
