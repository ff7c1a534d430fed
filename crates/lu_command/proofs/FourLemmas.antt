-- Words that are four, by the words at their places.
use Rattle.std.proofs.Common.{◌≡◌, ◌≢◌, List, [], ◌∷◌, Some, None, ap}
use Rattle.std.specs.List.{slice_get}

module _ {X : Type 0} (xs : List X) (x y z w : X) where
  -- a list without an element at a place below four is no four elements
  pub no_first_of_four : slice_get xs 0 ≡ None → xs ≢ x ∷ y ∷ z ∷ w ∷ []
  no_first_of_four none four =
      let some : slice_get xs 0 ≡ Some x = ap (λ zs. slice_get zs 0) four in
      absurd (cc)

  pub no_second_of_four : slice_get xs 1 ≡ None → xs ≢ x ∷ y ∷ z ∷ w ∷ []
  no_second_of_four none four =
      let some : slice_get xs 1 ≡ Some y = ap (λ zs. slice_get zs 1) four in
      absurd (cc)

  pub no_third_of_four : slice_get xs 2 ≡ None → xs ≢ x ∷ y ∷ z ∷ w ∷ []
  no_third_of_four none four =
      let some : slice_get xs 2 ≡ Some z = ap (λ zs. slice_get zs 2) four in
      absurd (cc)

  pub no_fourth_of_four : slice_get xs 3 ≡ None → xs ≢ x ∷ y ∷ z ∷ w ∷ []
  no_fourth_of_four none four =
      let some : slice_get xs 3 ≡ Some w = ap (λ zs. slice_get zs 3) four in
      absurd (cc)

  -- nor is one with a fifth element
  pub has_fifth : (v : X) → slice_get xs 4 ≡ Some v → xs ≢ x ∷ y ∷ z ∷ w ∷ []
  has_fifth v fifth four =
      let none : slice_get xs 4 ≡ None = ap (λ zs. slice_get zs 4) four in
      absurd (cc)

-- a list with four elements and no fifth is these four
pub is_four : {X : Type 0} (xs : List X) (x y z w : X) → slice_get xs 0 ≡ Some x → slice_get xs 1 ≡ Some y → slice_get xs 2 ≡ Some z → slice_get xs 3 ≡ Some w → slice_get xs 4 ≡ None → xs ≡ x ∷ y ∷ z ∷ w ∷ []
is_four [] x y z w first second third fourth fifth = absurd (cc)
is_four (x' ∷ []) x y z w first second third fourth fifth = absurd (cc)
is_four (x' ∷ y' ∷ []) x y z w first second third fourth fifth = absurd (cc)
is_four (x' ∷ y' ∷ z' ∷ []) x y z w first second third fourth fifth = absurd (cc)
is_four (x' ∷ y' ∷ z' ∷ w' ∷ []) x y z w first second third fourth fifth = cc
is_four (x' ∷ y' ∷ z' ∷ w' ∷ v' ∷ vs) x y z w first second third fourth fifth = absurd (cc)

-- four elements that are the same have the same fourth
pub same_fourth : {X : Type 0} (x y z w x' y' z' w' : X) → x ∷ y ∷ z ∷ w ∷ [] ≡ x' ∷ y' ∷ z' ∷ w' ∷ [] → w ≡ w'
same_fourth x y z w x' y' z' w' same = cc
