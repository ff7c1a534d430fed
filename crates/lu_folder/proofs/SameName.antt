-- A name is another one or it is not; names of commits tell generations apart.
use Rattle.std.proofs.Common.{◌≡◌, ◌≢◌, ◌⊎◌, ℕ, zero, suc, ◌<◌, Bool, true, false, List, [], ◌∷◌, ◌++◌, Option, Some, None, Contains, codes, inl, inr, refl, sym, ◌∙◌, arith}
use Rattle.std.specs.Str.{bytes_eq}
use Rattle.std.proofs.lemmas.Slice.Eq.{bytes_eq-Decides}
use Rattle.lu_prims.specs.Base36.{base36}
use Rattle.lu_prims.proofs.Base36Lemmas.{base36_same}
use Rattle.lu_folder.specs.ChangeValues.{commit_name}

true_is_not_false : true ≡ false → ⊥
true_is_not_false e = cc

pub same_name : (one other : List ℕ) → (one ≡ other) ⊎ (one ≢ other)
same_name one other = by_test (bytes_eq one other) refl
  where
    by_test : (t : Bool) → bytes_eq one other ≡ t → (one ≡ other) ⊎ (one ≢ other)
    by_test true is = inl ((bytes_eq-Decides one other).0 is)
    by_test false is = inr (λ same. true_is_not_false (sym ((bytes_eq-Decides one other).1 same) ∙ is))

-- the one element of a list, and what a list of one contains
pub Contains-only : {A : Type 0} (x : A) → Contains (x ∷ []) x
Contains-only x = (0, omega arith, refl)

pub only-is : {A : Type 0} (x y : A) → Contains (x ∷ []) y → x ≡ y
only-is x y (zero, within, is) = is
only-is x y (suc place, within, is) = absurd (omega arith)

pub none-within : {A : Type 0} (x : A) → Contains [] x → ⊥
none-within x (place, within, is) = omega arith

pub some_is_not_none : {A : Type 0} (o : Option A) (x : A) → o ≡ Some x → o ≡ None → ⊥
some_is_not_none o x is none = cc

-- the same bytes before others
pub rest_same : (front one other : List ℕ) → front ++ one ≡ front ++ other → one ≡ other
rest_same [] one other e = e
rest_same (b ∷ front) one other e = rest_same front one other (cc)

-- commits of one name are of one generation
pub commit_name-same : (one other : ℕ) → commit_name one ≡ commit_name other → one ≡ other
commit_name-same one other same = base36_same one other (rest_same (codes "segments_") (base36 one) (base36 other) same)

-- those of different generations have different names
pub commit_name-other : (generation later : ℕ) → generation < later → commit_name later ≢ commit_name generation
commit_name-other generation later less same = let e : later ≡ generation = commit_name-same later generation same in omega arith
