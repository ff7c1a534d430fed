-- One word, among others.
use Rattle.std.proofs.Common.{◌≢◌, ℕ, ◌<◌, List, [], ◌∷◌, ◌++◌, length, ap, arith, length-append}

-- more than one word, and others, are not one
pub more-not_lone : (words others : List (List ℕ)) → 1 < length words → (dir : List ℕ) → words ++ others ≢ dir ∷ []
more-not_lone words others more dir is = let e = ap length is in absurd (omega (arith, e, length-append words others))
