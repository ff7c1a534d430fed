-- What a list has that another is mapped to.
use Rattle.std.proofs.Common.{◌≡◌, zero, suc, List, [], ◌∷◌, map, Contains, refl, arith}

-- an element of it is that of an element
pub Contains-map : {A B : Type 0} (f : A → B) (xs : List A) (y : B) → Contains (map f xs) y → (x : A) × Contains xs x × (f x ≡ y)
Contains-map f [] y (place, within, is) = absurd (omega arith)
Contains-map f (x ∷ xs) y (zero, within, is) = (x, (0, omega arith, refl), is)
Contains-map f (x ∷ xs) y (suc place, within, is) =
    let found = Contains-map f xs y (place, omega arith, is) in
    (found.0, (suc found.1.0, omega (arith, found.1.1), found.1.2), found.2)
