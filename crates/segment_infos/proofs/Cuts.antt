-- A list that is cut at the first of a number.
use Rattle.std.proofs.Common.{◌≡◌, ◌≢◌, ℕ, suc, zero, ◌<◌, ◌+◌, true, false, eqb, List, [], ◌∷◌, ◌++◌, length, take, drop, get_or, refl, sym, ap, subst, ◌∙◌, arith, eq-eqb}
use Rattle.std.specs.List.{position_or_len, before_first, after_first}
use Rattle.std.proofs.lemmas.Bool.{ne_eqb}

-- the number is none of these
abbrev pub IsNoneOf : ℕ → List ℕ → Type 0
IsNoneOf c xs = (i : ℕ) → i < length xs → get_or xs i 0 ≢ c

-- the number is none of those after the first
pub IsNoneOf-rest : (c x : ℕ) (xs : List ℕ) → IsNoneOf c (x ∷ xs) → IsNoneOf c xs
IsNoneOf-rest c x xs none i within = none (suc i) (omega arith)

pub IsNoneOf-cons : (c x : ℕ) (xs : List ℕ) → x ≢ c → IsNoneOf c xs → IsNoneOf c (x ∷ xs)
IsNoneOf-cons c x xs other none zero within = other
IsNoneOf-cons c x xs other none (suc i) within = none i (omega arith)

-- nor of two lists together
pub IsNoneOf-append : (c : ℕ) (xs ys : List ℕ) → IsNoneOf c xs → IsNoneOf c ys → IsNoneOf c (xs ++ ys)
IsNoneOf-append c [] ys none others = others
IsNoneOf-append c (x ∷ xs) ys none others = IsNoneOf-cons c x (xs ++ ys) (none 0 (omega arith)) (IsNoneOf-append c xs ys (IsNoneOf-rest c x xs none) others)

pub IsNoneOf-left : (c : ℕ) (xs ys : List ℕ) → IsNoneOf c (xs ++ ys) → IsNoneOf c xs
IsNoneOf-left c [] ys none = λ i within same. absurd (omega arith)
IsNoneOf-left c (x ∷ xs) ys none = IsNoneOf-cons c x xs (none 0 (omega arith)) (IsNoneOf-left c xs ys (IsNoneOf-rest c x (xs ++ ys) none))

pub IsNoneOf-right : (c : ℕ) (xs ys : List ℕ) → IsNoneOf c (xs ++ ys) → IsNoneOf c ys
IsNoneOf-right c [] ys none = none
IsNoneOf-right c (x ∷ xs) ys none = IsNoneOf-right c xs ys (IsNoneOf-rest c x (xs ++ ys) none)

position-cut : (c : ℕ) (xs ys : List ℕ) → IsNoneOf c xs → position_or_len (λ b. eqb b c) (xs ++ c ∷ ys) ≡ length xs
position-cut c [] ys none = let same : eqb c c ≡ true = eq-eqb c c refl in rw same refl
position-cut c (x ∷ xs) ys none =
    let other : eqb x c ≡ false = ne_eqb x c (none 0 (omega arith)) in
    let rest : position_or_len (λ b. eqb b c) (xs ++ c ∷ ys) ≡ length xs = position-cut c xs ys (IsNoneOf-rest c x xs none) in
    rw (other, rest) (omega arith)

take-cut : (xs ys : List ℕ) → take (length xs) (xs ++ ys) ≡ xs
take-cut [] ys = refl
take-cut (x ∷ xs) ys = ap (λ (rest : List ℕ). x ∷ rest) (take-cut xs ys)

drop-cut : (c : ℕ) (xs ys : List ℕ) → drop (length xs + 1) (xs ++ c ∷ ys) ≡ ys
drop-cut c [] ys = refl
drop-cut c (x ∷ xs) ys = let n : length (x ∷ xs) + 1 ≡ suc (length xs + 1) = omega arith in rw n (drop-cut c xs ys)

-- what stands before the first, and behind it
pub before-cut : (c : ℕ) (xs ys : List ℕ) → IsNoneOf c xs → before_first (λ b. eqb b c) (xs ++ c ∷ ys) ≡ xs
before-cut c xs ys none = ap (λ (n : ℕ). take n (xs ++ c ∷ ys)) (position-cut c xs ys none) ∙ take-cut xs (c ∷ ys)

pub after-cut : (c : ℕ) (xs ys : List ℕ) → IsNoneOf c xs → after_first (λ b. eqb b c) (xs ++ c ∷ ys) ≡ ys
after-cut c xs ys none = ap (λ (n : ℕ). drop (n + 1) (xs ++ c ∷ ys)) (position-cut c xs ys none) ∙ drop-cut c xs ys

-- two cuts of one list are one
pub cut-front : (c : ℕ) (xs ys vs ws : List ℕ) → IsNoneOf c xs → IsNoneOf c vs → xs ++ c ∷ ys ≡ vs ++ c ∷ ws → xs ≡ vs
cut-front c xs ys vs ws none other same = sym (before-cut c xs ys none) ∙ ap (before_first (λ b. eqb b c)) same ∙ before-cut c vs ws other

pub cut-rest : (c : ℕ) (xs ys vs ws : List ℕ) → IsNoneOf c xs → IsNoneOf c vs → xs ++ c ∷ ys ≡ vs ++ c ∷ ws → ys ≡ ws
cut-rest c xs ys vs ws none other same = sym (after-cut c xs ys none) ∙ ap (after_first (λ b. eqb b c)) same ∙ after-cut c vs ws other

-- what has none of it is no cut
pub no-cut : (c : ℕ) (list xs ys : List ℕ) → IsNoneOf c list → list ≡ xs ++ c ∷ ys → ⊥
no-cut c list xs ys none same = at (length xs) (subst (λ (l : List ℕ). IsNoneOf c l) same none)
  where
    here : (xs : List ℕ) → get_or (xs ++ c ∷ ys) (length xs) 0 ≡ c
    here [] = refl
    here (x ∷ xs) = here xs

    long : (xs : List ℕ) → length xs < length (xs ++ c ∷ ys)
    long [] = omega arith
    long (x ∷ xs) = let rest = long xs in omega arith

    at : (n : ℕ) → IsNoneOf c (xs ++ c ∷ ys) → ⊥
    at n absent = absent (length xs) (long xs) (here xs)
