-- How many bytes two texts begin with alike.
use Rattle.std.proofs.Common.{◌≡◌, ◌≢◌, ◌⊎◌, ℕ, suc, ◌+◌, ◌<◌, ◌≤◌, min, Bool, true, false, eqb, List, [], ◌∷◌, ◌++◌, length, take, drop, get_or, drop-cons, length-drop, add-one, refl, sym, ap, ◌∙◌, arith, inl, inr}
use Rattle.std.specs.Prelude.{if◌then◌else◌}
use Rattle.std.proofs.lemmas.Bool.{eqb-true, eq-eqb, ne_eqb, cases_lt}
use Rattle.term_vectors.specs.VectorBytes.{shared_length}

-- the first bytes are the same, or they are not
shared-same : (x y : ℕ) (xs ys : List ℕ) → x ≡ y → shared_length (x ∷ xs) (y ∷ ys) ≡ suc (shared_length xs ys)
unfolding shared_length
shared-same x y xs ys e = let t : eqb x y ≡ true = eq-eqb x y e in rw t refl

shared-apart : (x y : ℕ) (xs ys : List ℕ) → x ≢ y → shared_length (x ∷ xs) (y ∷ ys) ≡ 0
unfolding shared_length
shared-apart x y xs ys ne = let f : eqb x y ≡ false = ne_eqb x y ne in rw f refl

shared-none : (xs ys : List ℕ) → (length xs ≡ 0) ⊎ (length ys ≡ 0) → shared_length xs ys ≡ 0
unfolding shared_length
shared-none [] ys h = refl
shared-none (x ∷ xs) [] h = refl
shared-none (x ∷ xs) (y ∷ ys) (inl e) = absurd (omega (arith, e))
shared-none (x ∷ xs) (y ∷ ys) (inr e) = absurd (omega (arith, e))

pub shared-more : (xs ys : List ℕ) (k : ℕ) → k < length xs → k < length ys → get_or xs k 0 ≡ get_or ys k 0
    → shared_length (drop k xs) (drop k ys) ≡ suc (shared_length (drop (k + 1) xs) (drop (k + 1) ys))
shared-more xs ys k h g e =
    ap (λ (t : List ℕ). shared_length t (drop k ys)) (drop-cons xs k 0 h) ∙ ap (shared_length (get_or xs k 0 ∷ drop (suc k) xs)) (drop-cons ys k 0 g)
    ∙ shared-same (get_or xs k 0) (get_or ys k 0) (drop (suc k) xs) (drop (suc k) ys) e
    ∙ ap (λ (n : ℕ). suc (shared_length (drop n xs) (drop n ys))) (sym (add-one k))

pub shared-ends : (xs ys : List ℕ) (k : ℕ) → k < length xs → k < length ys → get_or xs k 0 ≢ get_or ys k 0 → shared_length (drop k xs) (drop k ys) ≡ 0
shared-ends xs ys k h g ne =
    ap (λ (t : List ℕ). shared_length t (drop k ys)) (drop-cons xs k 0 h) ∙ ap (shared_length (get_or xs k 0 ∷ drop (suc k) xs)) (drop-cons ys k 0 g)
    ∙ shared-apart (get_or xs k 0) (get_or ys k 0) (drop (suc k) xs) (drop (suc k) ys) ne

pub shared-all : (xs ys : List ℕ) (k : ℕ) → k ≡ min (length xs) (length ys) → shared_length (drop k xs) (drop k ys) ≡ 0
shared-all xs ys k e = elim (cases_lt (length xs) (length ys)) [
  | inl lt ↦ shared-none (drop k xs) (drop k ys) (inl (omega (arith, length-drop k xs)))
  | inr ge ↦ shared-none (drop k xs) (drop k ys) (inr (omega (arith, length-drop k ys)))
]

-- they are within both texts
pub shared-within : (xs ys : List ℕ) → (shared_length xs ys ≤ length xs) × (shared_length xs ys ≤ length ys)
unfolding shared_length
shared-within [] ys = (omega arith, omega arith)
shared-within (x ∷ xs) [] = (omega arith, omega arith)
shared-within (x ∷ xs) (y ∷ ys) = go (eqb x y) (shared-within xs ys)
  where
    both : ℕ → Type 0
    both n = (n ≤ length (x ∷ xs)) × (n ≤ length (y ∷ ys))

    go : (b : Bool) → (shared_length xs ys ≤ length xs) × (shared_length xs ys ≤ length ys) → both (if b then suc (shared_length xs ys) else 0)
    go true h = (omega (arith, h.0), omega (arith, h.1))
    go false h = (omega arith, omega arith)

-- the shared bytes and the others are the text
pub shared-again : (xs ys : List ℕ) → take (shared_length xs ys) xs ++ drop (shared_length xs ys) ys ≡ ys
unfolding shared_length
shared-again [] ys = refl
shared-again (x ∷ xs) [] = refl
shared-again (x ∷ xs) (y ∷ ys) = go (eqb x y) refl (shared-again xs ys)
  where
    whole : ℕ → Type 0
    whole n = take n (x ∷ xs) ++ drop n (y ∷ ys) ≡ y ∷ ys

    go : (b : Bool) → eqb x y ≡ b → take (shared_length xs ys) xs ++ drop (shared_length xs ys) ys ≡ ys → whole (if b then suc (shared_length xs ys) else 0)
    go true e h = ap (λ (n : ℕ). n ∷ (take (shared_length xs ys) xs ++ drop (shared_length xs ys) ys)) (eqb-true x y e) ∙ ap (λ (t : List ℕ). y ∷ t) h
    go false e h = refl
