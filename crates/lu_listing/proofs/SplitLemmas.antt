-- Lists and ranges from a place on.
use Rattle.std.proofs.Common.{◌≡◌, ℕ, suc, ◌+◌, ◌-◌, ◌<◌, ◌≤◌, Bool, true, List, [], ◌∷◌, length, get_or, drop, filter, refl, ap, ◌∙◌, arith, drop-cons}
use Rattle.std.specs.List.{range_with_len, AllZip}

-- the numbers from one on that are below the size
pub range-next : (n size : ℕ) → n < size → range_with_len n (size - n) ≡ n ∷ range_with_len (n + 1) (size - (n + 1))
range-next n size lt = ap (range_with_len n) (let e : size - n ≡ suc (size - (n + 1)) = omega arith in e)

-- none is
pub range-none : (n size : ℕ) → size ≤ n → range_with_len n (size - n) ≡ []
range-none n size le = ap (range_with_len n) (let e : size - n ≡ 0 = omega arith in e)

-- the elements from one on
pub drop-next : {A : Type 0} (xs : List A) (n : ℕ) (default : A) → n < length xs → drop n xs ≡ get_or xs n default ∷ drop (n + 1) xs
drop-next {A} xs n default lt = drop-cons xs n default lt ∙ ap (λ (k : ℕ). get_or xs n default ∷ drop k xs) (let e : suc n ≡ n + 1 = omega arith in e)

-- lists that stand side by side are as long
pub length-zip : {A B : Type 0} (R : A → B → Type 0) (xs : List A) (ys : List B) → AllZip R xs ys → length xs ≡ length ys
length-zip R [] [] h = refl
length-zip R [] (y ∷ ys) h = absurd h
length-zip R (x ∷ xs) [] h = absurd h
length-zip R (x ∷ xs) (y ∷ ys) h = ap suc (length-zip R xs ys h.1)

-- a filter that all elements pass
pub filter-passed : {A : Type 0} (test : A → Bool) (xs : List A) → ((x : A) → test x ≡ true) → filter test xs ≡ xs
filter-passed test [] passes = refl
filter-passed {A} test (x ∷ xs) passes = simp (passes x) (ap (λ (ys : List A). x ∷ ys) (filter-passed test xs passes))
