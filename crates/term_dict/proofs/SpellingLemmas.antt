-- The bytes of entries.
use Rattle.std.proofs.Common.{◌≡◌, ◌≢◌, ◌⊎◌, ℕ, zero, suc, ◌+◌, ◌<◌, ◌≤◌, min, Bool, true, false, eqb, List, [], ◌∷◌, ◌++◌, length, take, drop, get_or, drop-cons, length-drop, add-one, refl, sym, ap, ◌∙◌, append_assoc, arith, inl, inr}
use Rattle.std.specs.Prelude.{if◌then◌else◌}
use Rattle.std.proofs.lemmas.Bool.{eqb-true, eq-eqb, ne_eqb, cases_lt}
use Rattle.std.proofs.lemmas.List.{append-nil}
use Rattle.term_dict.specs.Canonical.{shared}

-- parts appended one after another are their bytes appended at once
pub appended : (out a b c d e f g h : List ℕ) → out ++ a ++ b ++ c ++ d ++ e ++ f ++ g ++ h ≡ out ++ (a ++ (b ++ (c ++ (d ++ (e ++ (f ++ (g ++ (h ++ []))))))))
appended out a b c d e f g h = simp (append_assoc, append-nil)

-- the first bytes are the same, or they are not
pub shared-same : (x y : ℕ) (xs ys : List ℕ) → x ≡ y → shared (x ∷ xs) (y ∷ ys) ≡ suc (shared xs ys)
unfolding shared
shared-same x y xs ys e = let t : eqb x y ≡ true = eq-eqb x y e in rw t refl

pub shared-apart : (x y : ℕ) (xs ys : List ℕ) → x ≢ y → shared (x ∷ xs) (y ∷ ys) ≡ 0
unfolding shared
shared-apart x y xs ys ne = let f : eqb x y ≡ false = ne_eqb x y ne in rw f refl

pub shared-none : (xs ys : List ℕ) → (length xs ≡ 0) ⊎ (length ys ≡ 0) → shared xs ys ≡ 0
unfolding shared
shared-none [] ys h = refl
shared-none (x ∷ xs) [] h = refl
shared-none (x ∷ xs) (y ∷ ys) (inl e) = absurd (omega (arith, e))
shared-none (x ∷ xs) (y ∷ ys) (inr e) = absurd (omega (arith, e))

pub shared-more : (xs ys : List ℕ) (k : ℕ) → k < length xs → k < length ys → get_or xs k 0 ≡ get_or ys k 0 → shared (drop k xs) (drop k ys) ≡ suc (shared (drop (k + 1) xs) (drop (k + 1) ys))
shared-more xs ys k h g e =
    ap (λ (t : List ℕ). shared t (drop k ys)) (drop-cons xs k 0 h) ∙ ap (shared (get_or xs k 0 ∷ drop (suc k) xs)) (drop-cons ys k 0 g)
    ∙ shared-same (get_or xs k 0) (get_or ys k 0) (drop (suc k) xs) (drop (suc k) ys) e ∙ ap (λ (n : ℕ). suc (shared (drop n xs) (drop n ys))) (sym (add-one k))

pub shared-ends : (xs ys : List ℕ) (k : ℕ) → k < length xs → k < length ys → get_or xs k 0 ≢ get_or ys k 0 → shared (drop k xs) (drop k ys) ≡ 0
shared-ends xs ys k h g ne =
    ap (λ (t : List ℕ). shared t (drop k ys)) (drop-cons xs k 0 h) ∙ ap (shared (get_or xs k 0 ∷ drop (suc k) xs)) (drop-cons ys k 0 g)
    ∙ shared-apart (get_or xs k 0) (get_or ys k 0) (drop (suc k) xs) (drop (suc k) ys) ne

pub shared-all : (xs ys : List ℕ) (k : ℕ) → k ≡ min (length xs) (length ys) → shared (drop k xs) (drop k ys) ≡ 0
shared-all xs ys k e = elim (cases_lt (length xs) (length ys)) [
  | inl lt ↦ shared-none (drop k xs) (drop k ys) (inl (omega (arith, length-drop k xs)))
  | inr ge ↦ shared-none (drop k xs) (drop k ys) (inr (omega (arith, length-drop k ys)))
]

-- the parts of a header
pub appended-five : (out a b c d e : List ℕ) → out ++ a ++ b ++ c ++ d ++ e ≡ out ++ (a ++ (b ++ (c ++ (d ++ e))))
appended-five out a b c d e = simp append_assoc

-- a text and one that begins with so many of its bytes
pub shared-prefix : (xs ys : List ℕ) (p : ℕ) → p ≤ length xs → shared xs (take p xs ++ ys) ≡ p + shared (drop p xs) ys
shared-prefix xs ys zero le = let e : 0 + shared xs ys ≡ shared xs ys = omega arith in sym e
shared-prefix [] ys (suc p) le = absurd (omega (arith, le))
shared-prefix (x ∷ xs) ys (suc p) le =
    shared-same x x xs (take p xs ++ ys) refl ∙ ap (λ (n : ℕ). suc n) (shared-prefix xs ys p (omega (arith, le)))
    ∙ (let e : suc (p + shared (drop p xs) ys) ≡ suc p + shared (drop p xs) ys = omega arith in e)

-- what two texts share
pub take-shared : (xs ys : List ℕ) → take (shared xs ys) xs ≡ take (shared xs ys) ys
unfolding shared
take-shared [] ys = refl
take-shared (x ∷ xs) [] = refl
take-shared (x ∷ xs) (y ∷ ys) = go (eqb x y) refl (take-shared xs ys)
  where
    go : (b : Bool) → eqb x y ≡ b → take (shared xs ys) xs ≡ take (shared xs ys) ys → take (if b then suc (shared xs ys) else 0) (x ∷ xs) ≡ take (if b then suc (shared xs ys) else 0) (y ∷ ys)
    go true e h = ap (λ (n : ℕ). n ∷ take (shared xs ys) xs) (eqb-true x y e) ∙ ap (λ (t : List ℕ). y ∷ t) h
    go false e h = refl
