-- Lists of numbers compared by a rank: what decides.
use Rattle.std.proofs.Common.{◌≡◌, ◌≢◌, ◌⊎◌, ℕ, suc, ◌+◌, ◌-◌, ◌<◌, ◌≤◌, min, List, [], ◌∷◌, ◌++◌, length, get_or, drop, drop-cons, length-drop, add-one, refl, sym, ap, ◌∙◌, ⊎_elim, inl, inr, arith}
use Rattle.std.proofs.lemmas.Bool.{cases_lt}
use Rattle.std.specs.declared.cmp.Ordering.{Ordering}
use Rattle.std.specs.declared.cmp.Ordering.TheVariants.{Less, Equal, Greater}
use Rattle.std.specs.Ordering.{nat_cmp, ordering_then}
use Rattle.std.specs.Cmp.{IsTotalOrder}
use Rattle.std.specs.Cmp.Lexicographic.{slice_cmp}
use Rattle.std.proofs.lemmas.Cmp.{nat_cmp_total, lists_total, on_total}
use Rattle.std.proofs.lemmas.Bool.Decides.{nat_tests}

pub nat_less : (x y : ℕ) → x < y → nat_cmp x y ≡ Less
nat_less x y h = grind (arith, nat_tests)

pub nat_greater : (x y : ℕ) → y < x → nat_cmp x y ≡ Greater
nat_greater x y h = grind (arith, nat_tests)

pub nat_level : (x y : ℕ) → x ≡ y → nat_cmp x y ≡ Equal
nat_level x y h = grind (arith, nat_tests)

-- lists in order by the rank of their numbers
abbrev pub ranks_cmp : (ℕ → ℕ) → List ℕ → List ℕ → Ordering
ranks_cmp f xs ys = slice_cmp (λ x y. nat_cmp (f x) (f y)) xs ys

pub ranks_total : (f : ℕ → ℕ) → IsTotalOrder (ranks_cmp f)
ranks_total f = lists_total (on_total f nat_cmp_total)

-- the first numbers decide, or what follows where they are the same
pub less_first : (f : ℕ → ℕ) (x y : ℕ) (xs ys : List ℕ) → f x < f y → ranks_cmp f (x ∷ xs) (y ∷ ys) ≡ Less
less_first f x y xs ys h = ap (λ o. ordering_then o (ranks_cmp f xs ys)) (nat_less (f x) (f y) h)

pub level_first : (f : ℕ → ℕ) (x y : ℕ) (xs ys : List ℕ) → x ≡ y → ranks_cmp f (x ∷ xs) (y ∷ ys) ≡ ranks_cmp f xs ys
level_first f x y xs ys e = ap (λ o. ordering_then o (ranks_cmp f xs ys)) (nat_level (f x) (f y) (ap f e))

pub less_next : (f : ℕ → ℕ) (x y : ℕ) (xs ys : List ℕ) → x ≡ y → ranks_cmp f xs ys ≡ Less → ranks_cmp f (x ∷ xs) (y ∷ ys) ≡ Less
less_next f x y xs ys e h = level_first f x y xs ys e ∙ h

pub level_front : (f : ℕ → ℕ) (front xs ys : List ℕ) → ranks_cmp f (front ++ xs) (front ++ ys) ≡ ranks_cmp f xs ys
level_front f [] xs ys = refl
level_front f (x ∷ front) xs ys = level_first f x x (front ++ xs) (front ++ ys) refl ∙ level_front f front xs ys

pub differ_first : (f : ℕ → ℕ) (x y : ℕ) (xs ys : List ℕ) → f x ≢ f y → ranks_cmp f (x ∷ xs) (y ∷ ys) ≡ nat_cmp (f x) (f y)
differ_first f x y xs ys h = decided (f x) (f y) (ranks_cmp f xs ys) h
  where
    decided : (m n : ℕ) (o : Ordering) → m ≢ n → ordering_then (nat_cmp m n) o ≡ nat_cmp m n
    decided m n o h = grind (arith, nat_tests)

-- where one list has ended, the lengths decide
ended : (f : ℕ → ℕ) (xs ys : List ℕ) → (length xs ≡ 0) ⊎ (length ys ≡ 0) → ranks_cmp f xs ys ≡ nat_cmp (length xs) (length ys)
ended f [] [] h = refl
ended f [] (y ∷ ys) h = sym (nat_less 0 (length (y ∷ ys)) (omega arith))
ended f (x ∷ xs) [] h = sym (nat_greater (length (x ∷ xs)) 0 (omega arith))
ended f (x ∷ xs) (y ∷ ys) h = absurd (⊎_elim (λ (e : length (x ∷ xs) ≡ 0). omega arith) (λ (e : length (y ∷ ys) ≡ 0). omega arith) h)

same_distance : (m n k : ℕ) → k ≤ m → k ≤ n → nat_cmp (m - k) (n - k) ≡ nat_cmp m n
same_distance m n k h g = grind (arith, nat_tests)

pub walk_ends : (f : ℕ → ℕ) (xs ys : List ℕ) (k : ℕ) → k ≡ min (length xs) (length ys) → ranks_cmp f xs ys ≡ ranks_cmp f (drop k xs) (drop k ys) → ranks_cmp f xs ys ≡ nat_cmp (length xs) (length ys)
walk_ends f xs ys k e h =
    let left = length-drop k xs in
    let right = length-drop k ys in
    let short : (length (drop k xs) ≡ 0) ⊎ (length (drop k ys) ≡ 0) = ⊎_elim (λ (l : length xs < length ys). inl (omega arith)) (λ (l : length ys ≤ length xs). inr (omega arith)) (cases_lt (length xs) (length ys)) in
    h ∙ ended f (drop k xs) (drop k ys) short ∙ ap (λ (n : ℕ). nat_cmp n (length (drop k ys))) left ∙ ap (nat_cmp (length xs - k)) right ∙ same_distance (length xs) (length ys) k (omega arith) (omega arith)

pub walk_more : (f : ℕ → ℕ) (xs ys : List ℕ) (k : ℕ) → k < length xs → k < length ys → get_or xs k 0 ≡ get_or ys k 0 → ranks_cmp f (drop k xs) (drop k ys) ≡ ranks_cmp f (drop (k + 1) xs) (drop (k + 1) ys)
walk_more f xs ys k h g e =
    ap (λ (x : List ℕ). ranks_cmp f x (drop k ys)) (drop-cons xs k 0 h) ∙ ap (ranks_cmp f (get_or xs k 0 ∷ drop (suc k) xs)) (drop-cons ys k 0 g) ∙ level_first f (get_or xs k 0) (get_or ys k 0) (drop (suc k) xs) (drop (suc k) ys) e ∙ ap (λ (n : ℕ). ranks_cmp f (drop n xs) (drop n ys)) (sym (add-one k))

pub walk_decides : (f : ℕ → ℕ) (xs ys : List ℕ) (k : ℕ) → k < length xs → k < length ys → f (get_or xs k 0) ≢ f (get_or ys k 0) → ranks_cmp f (drop k xs) (drop k ys) ≡ nat_cmp (f (get_or xs k 0)) (f (get_or ys k 0))
walk_decides f xs ys k h g e =
    ap (λ (x : List ℕ). ranks_cmp f x (drop k ys)) (drop-cons xs k 0 h) ∙ ap (ranks_cmp f (get_or xs k 0 ∷ drop (suc k) xs)) (drop-cons ys k 0 g) ∙ differ_first f (get_or xs k 0) (get_or ys k 0) (drop (suc k) xs) (drop (suc k) ys) e
