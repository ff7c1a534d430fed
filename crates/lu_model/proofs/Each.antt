-- Facts of each item of a list, and of each pair.
use Rattle.std.proofs.Common.{◌≡◌, ℕ, zero, suc, ◌+◌, ◌<◌, ◌≤◌, Bool, true, false, cond, List, [], ◌∷◌, length, map, get_or, refl, sym, subst, inl, inr, arith, lit<}
use Rattle.std.specs.Prelude.{filter, All, AllPairs}
use Rattle.std.specs.List.{AllByRecursion, fold}
use Rattle.std.specs.List.Sorted.{IsNonDecreasing}
use Rattle.std.proofs.lemmas.Bool.{cases_lt}
use Rattle.std.proofs.lemmas.List.Elements.{All-from_recursion}
use Rattle.std.proofs.lemmas.List.Kept.{AllPairs-cons}
use Rattle.std.specs.declared.cmp.Ordering.{Ordering}
use Rattle.std.specs.declared.cmp.Ordering.TheVariants.{Less, Equal, Greater}
use Rattle.lu_grammar.specs.Bytes.{IsBytes}
use Rattle.lu_model.specs.Index.{in_order}
use Rattle.lu_model.proofs.Words.{IsIn, Each, EachPair}
use Rattle.std.specs.BTreeSet.{insert_key}
use Rattle.std.specs.Ordering.{match_ordering}

module _ {X : Type 0} (P : X → Type 0) where
  pub each_in : (xs : List X) → ((x : X) → IsIn x xs → P x) → Each P xs
  each_in [] h = tt
  each_in (x ∷ xs) h = (h x (inl refl), each_in xs (λ y k. h y (inr k)))

  pub each_at : (x : X) (xs : List X) → Each P xs → IsIn x xs → P x
  each_at x [] h k = absurd k
  each_at x (y ∷ xs) h (inl e) = subst P (sym e) h.0
  each_at x (y ∷ xs) h (inr k) = each_at x xs h.1 k

  pub each_by_recursion : (xs : List X) → AllByRecursion P xs → Each P xs
  each_by_recursion [] h = tt
  each_by_recursion (x ∷ xs) h = (h.0, each_by_recursion xs h.1)

  pub each_filter : (p : X → Bool) (xs : List X) → Each P xs → Each P (filter p xs)
  each_filter p [] h = tt
  each_filter p (x ∷ xs) h = elim (p x) as (λ b. Each P (cond b (x ∷ filter p xs) (filter p xs))) [ true ↦ (h.0, each_filter p xs h.1) | false ↦ each_filter p xs h.1 ]

  pub each_map : {Y : Type 0} (f : Y → X) (ys : List Y) → Each (λ y. P (f y)) ys → Each P (map f ys)
  each_map f [] h = tt
  each_map f (y ∷ ys) h = (h.0, each_map f ys h.1)

module _ {X : Type 0} (R : X → X → Type 0) where
  pub pair_filter : (p : X → Bool) (xs : List X) → EachPair R xs → EachPair R (filter p xs)
  pair_filter p [] h = tt
  pair_filter p (x ∷ xs) h =
      elim (p x) as (λ b. EachPair R (cond b (x ∷ filter p xs) (filter p xs))) [ true ↦ (each_filter (R x) p xs h.0, pair_filter p xs h.1) | false ↦ pair_filter p xs h.1 ]

  pub pair_map : {Y : Type 0} (f : Y → X) (ys : List Y) → EachPair (λ a b. R (f a) (f b)) ys → EachPair R (map f ys)
  pair_map f [] h = tt
  pair_map f (y ∷ ys) h = (each_map (R (f y)) f ys h.0, pair_map f ys h.1)

  pub pair_weaker : (S : X → X → Type 0) (xs : List X) → ((x y : X) → IsIn x xs → IsIn y xs → S x y → R x y) → EachPair S xs → EachPair R xs
  pair_weaker S [] h k = tt
  pair_weaker S (x ∷ xs) h k =
      (each_in (R x) xs (λ y q. h x y (inl refl) (inr q) (each_at (S x) y xs k.0 q)), pair_weaker S xs (λ a b p q. h a b (inr p) (inr q)) k.1)

-- ---- between facts by place and by recursion

pub all-from_each : {X : Type 0} (P : X → Type 0) (xs : List X) → Each P xs → All P xs
all-from_each P xs h = All-from_recursion P xs h

pub each-from_all : {X : Type 0} (P : X → Type 0) (xs : List X) → All P xs → Each P xs
each-from_all P [] h = tt
each-from_all P (x ∷ xs) h = (h 0 x (omega arith), each-from_all P xs (λ k d l. h (suc k) d (omega arith)))

pub pairs-from_each : {X : Type 0} (R : X → X → Type 0) (xs : List X) → EachPair R xs → AllPairs R xs
pairs-from_each R [] h = λ i j d p q. absurd (omega arith)
pairs-from_each R (x ∷ xs) h = AllPairs-cons R x xs (all-from_each (R x) xs h.0) (pairs-from_each R xs h.1)

pub each-from_pairs : {X : Type 0} (R : X → X → Type 0) (xs : List X) → AllPairs R xs → EachPair R xs
each-from_pairs R [] h = tt
each-from_pairs R (x ∷ xs) h = (each-from_all (R x) xs (λ k d l. h 0 (suc k) d (omega arith) (omega arith)), each-from_pairs R xs (λ i j d p q. h (suc i) (suc j) d (omega arith) (omega arith)))

pub all_at : {X : Type 0} (P : X → Type 0) (x : X) (xs : List X) → All P xs → IsIn x xs → P x
all_at P x xs h k = each_at P x xs (each-from_all P xs h) k

-- numbers of which none is below one before it
pub non_decreasing : (ns : List ℕ) → EachPair (λ m n. m ≤ n) ns → IsNonDecreasing ns
non_decreasing ns h i j d low high = elim (cases_lt i j) [
  | inl l ↦ pairs-from_each (λ m n. m ≤ n) ns h i j d l high
  | inr l ↦ let same : i ≡ j = omega (arith, low, l) in subst (λ k. get_or ns i d ≤ get_or ns k d) same (omega arith)
]

-- a list whose items are bytes
pub are_bytes : (bytes : List ℕ) → Each (λ byte. byte < 256) bytes → IsBytes bytes
are_bytes [] h i = lit< tt
are_bytes (b ∷ bytes) h zero = h.0
are_bytes (b ∷ bytes) h (suc i) = are_bytes bytes h.1 i

-- ---- lengths

-- a filter keeps at most all
pub length_filter-le : {X : Type 0} (p : X → Bool) (xs : List X) → length (filter p xs) ≤ length xs
length_filter-le p [] = omega arith
length_filter-le p (x ∷ xs) =
    let rest = length_filter-le p xs in
    elim (p x) as (λ b. length (cond b (x ∷ filter p xs) (filter p xs)) ≤ suc (length xs)) [ true ↦ omega arith | false ↦ omega arith ]

-- a list in order has at most as many items
length_insert-le : {X : Type 0} (cmp : X → X → Ordering) (x : X) (ys : List X) → length (insert_key cmp ys x) ≤ suc (length ys)
length_insert-le cmp x [] = omega arith
length_insert-le {X} cmp x (y ∷ ys) =
    let rest = length_insert-le cmp x ys in
    elim (cmp x y) as (λ o. length {A = X} (match_ordering o (x ∷ y ∷ ys) (y ∷ ys) (y ∷ insert_key cmp ys x)) ≤ suc (suc (length ys))) [ Less ↦ omega arith | Equal ↦ omega arith | Greater ↦ omega arith ]

length_filled-le : {X : Type 0} (cmp : X → X → Ordering) (ys xs : List X) → length (fold (insert_key cmp) ys xs) ≤ length ys + length xs
length_filled-le cmp ys [] = omega arith
length_filled-le cmp ys (x ∷ xs) =
    let rest = length_filled-le cmp (insert_key cmp ys x) xs in
    let one = length_insert-le cmp x ys in
    omega arith

pub length_in_order-le : {X : Type 0} (cmp : X → X → Ordering) (xs : List X) → length (in_order cmp xs) ≤ length xs
unfolding in_order
length_in_order-le cmp xs = let rest = length_filled-le cmp [] xs in omega arith
