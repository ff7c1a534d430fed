-- Sorted uses fall into runs, one for each text.
use Rattle.std.proofs.Common.{◌≡◌, refl, ap, sym, ◌∙◌, ℕ, zero, suc, ◌+◌, ◌<◌, ◌≤◌, List, [], ◌∷◌, length, take, drop, get_or, Bool, true, false, cond, All, IsPermutation, is_lt, inl, inr, arith}
use Rattle.std.specs.declared.cmp.Ordering.{Ordering}
use Rattle.std.specs.declared.cmp.Ordering.TheVariants.{Less, Equal, Greater}
use Rattle.std.specs.Ordering.{eq_by_cmp, is_eq, ordering_reverse}
use Rattle.std.specs.List.{filter, AllByRecursion, IsDistinct}
use Rattle.std.specs.List.Sorted.{IsStrictlySortedBy}
use Rattle.std.proofs.lemmas.Bool.{false≢true}
use Rattle.std.proofs.lemmas.List.Kept.{IsStrictlySortedBy-filter}
use Rattle.std.proofs.lemmas.List.Sorted.{All-permutation, IsPermutation-sym}
use Rattle.std.proofs.lemmas.Map.Keys.{IsDistinct-from_sorted, IsDistinct-IsPermutation, apart_from_distinct, sorted_from_all_adjacent}
use Rattle.std.proofs.lemmas.Slice.Eq.{bytes_eq-Decides}
use Rattle.lu_model.proofs.Among.{from_filter, in_filter}
use Rattle.lu_model.proofs.Each.{all_at}
use Rattle.lu_model.proofs.Ordered.{one_rising}
use Rattle.lu_model.proofs.Words.{IsIn}
use Rattle.seg_writer.specs.declared.appearance.Appearance.{Appearance}
use Rattle.seg_writer.specs.declared.inverted.Use.{Use}
use Rattle.seg_writer.specs.Columns.{all_uses, uses_of}
use Rattle.seg_writer.specs.SortedUses.{AreSortedUses, is_of, lead_length, place_cmp, text_at, use_cmp}
use Rattle.seg_writer.proofs.AllUsesLemmas.{all-rise, filter-all, recursion}
use Rattle.seg_writer.proofs.UseOrder.{IsSound, place_total, same_text_places, text_between, tied_places, use_total}

-- ---- runs

pub lead-same : (p q : Use → Bool) (xs : List Use) → AllByRecursion (λ x. p x ≡ q x) xs → lead_length p xs ≡ lead_length q xs
lead-same p q [] same = refl
lead-same p q (x ∷ xs) same = let rest = lead-same p q xs same.1 in λ i. cond (same.0 i) (suc (rest i)) 0

pub lead-passes : (p : Use → Bool) (xs : List Use) → AllByRecursion (λ x. p x ≡ true) (take (lead_length p xs) xs)
lead-passes p [] = tt
lead-passes p (x ∷ xs) = elim (p x) as (λ b. p x ≡ b → AllByRecursion (λ y. p y ≡ true) (take (cond b (suc (lead_length p xs)) 0) (x ∷ xs))) [
  | true ↦ λ e. (e, lead-passes p xs)
  | false ↦ λ e. tt
] refl

pub filter-none : {X : Type 0} (p : X → Bool) (xs : List X) → AllByRecursion (λ x. p x ≡ false) xs → filter p xs ≡ []
filter-none p [] none = refl
filter-none p (x ∷ xs) none = ap (λ b. cond b (x ∷ filter p xs) (filter p xs)) none.0 ∙ filter-none p xs none.1

pub filter-every : {X : Type 0} (p : X → Bool) (xs : List X) → AllByRecursion (λ x. p x ≡ true) xs → filter p xs ≡ xs
filter-every p [] every = refl
filter-every p (x ∷ xs) every = ap (λ b. cond b (x ∷ filter p xs) (filter p xs)) every.0 ∙ ap (λ w. x ∷ w) (filter-every p xs every.1)

-- a use whose text is this one
of : (column : List Appearance) (q : List ℕ) (u : Use) → is_of column q u ≡ true → q ≡ text_at column u
of column q u e = (bytes_eq-Decides q (text_at column u)).0 e

-- uses behind one that has another text than the first have another text too
none-behind : (column : List Appearance) (q : List ℕ) (x y : Use) (zs : List Use) → IsSound column x → IsSound column y → is_of column q x ≡ true → use_cmp column x y ≡ Less → is_of column q y ≡ false
    → AllByRecursion (IsSound column) zs → AllByRecursion (λ z. use_cmp column y z ≡ Less) zs → AllByRecursion (λ z. is_of column q z ≡ false) zs
none-behind column q x y [] a b first low other sound rise = tt
none-behind column q x y (z ∷ zs) a b first low other sound rise = (
  elim (is_of column q z) as (λ t. is_of column q z ≡ t → t ≡ false) [
    | true ↦ λ e. sym ((bytes_eq-Decides q (text_at column y)).1 (of column q x first ∙ text_between column x y z a b sound.0 low rise.0 (sym (of column q x first) ∙ of column q z e))) ∙ other
    | false ↦ λ e. refl
  ] refl,
  none-behind column q x y zs a b first low other sound.1 rise.1,
)

-- behind a run no use has its text
pub run-past : (column : List Appearance) (q : List ℕ) (x : Use) (ys : List Use) → IsSound column x → is_of column q x ≡ true → AllByRecursion (IsSound column) ys → AllByRecursion (λ y. use_cmp column x y ≡ Less) ys
    → IsStrictlySortedBy (use_cmp column) ys → filter (is_of column q) (drop (lead_length (is_of column q) ys) ys) ≡ []
unfolding IsStrictlySortedBy
run-past column q x [] a first sound after rise = refl
run-past column q x (y ∷ ys) a first sound after rise = elim (is_of column q y) as (λ b. is_of column q y ≡ b → filter (is_of column q) (drop (cond b (suc (lead_length (is_of column q) ys)) 0) (y ∷ ys)) ≡ []) [
  | true ↦ λ e. run-past column q x ys a first sound.1 after.1 rise.1
  | false ↦ λ e. ap (λ b. cond b (y ∷ filter (is_of column q) ys) (filter (is_of column q) ys)) e ∙ filter-none (is_of column q) ys (none-behind column q x y ys a sound.0 first after.0 e sound.1 rise.0)
] refl

-- ---- sorted uses

module _ (column : List Appearance) (uses : List Use) (s : AreSortedUses column uses) where
  pub sounds : AllByRecursion (IsSound column) uses
  sounds = recursion (IsSound column) uses (λ k d lt. record { utf8 = s.utf8 k d lt; own = s.own k d lt })

  places_apart : IsDistinct (eq_by_cmp place_cmp) uses
  places_apart = IsDistinct-IsPermutation (eq_by_cmp place_cmp) (λ x y. flips x y) (all_uses column) uses s.all (IsDistinct-from_sorted place_cmp (all_uses column) (all-rise column))
    where
      turned : (o : Ordering) → is_eq (ordering_reverse o) ≡ is_eq o
      turned Less = refl
      turned Equal = refl
      turned Greater = refl

      flips : (x y : Use) → eq_by_cmp place_cmp x y ≡ eq_by_cmp place_cmp y x
      flips x y = ap is_eq (place_total.antisymm x y) ∙ turned (place_cmp y x)

  below : (o : Ordering) → is_lt (ordering_reverse o) ≡ false → (o ≡ Equal → ⊥) → o ≡ Less
  below Less h k = refl
  below Equal h k = absurd (k refl)
  below Greater h k = absurd (false≢true (sym h))

  -- they rise
  pub uses_rise : IsStrictlySortedBy (use_cmp column) uses
  unfolding IsStrictlySortedBy
  uses_rise = rise_of uses s.sorted places_apart
    where
      rise_of : (xs : List Use) → ((k : ℕ) (d : Use) → 0 ≤ k → k + 1 < length xs → is_lt (use_cmp column (get_or xs (k + 1) d) (get_or xs k d)) ≡ false) → IsDistinct (eq_by_cmp place_cmp) xs → IsStrictlySortedBy (use_cmp column) xs
      rise_of [] sorted apart = tt
      rise_of (x ∷ xs) sorted apart = sorted_from_all_adjacent (use_total column) (x ∷ xs) x (λ k lt.
          let a = get_or (x ∷ xs) k x in
          let b = get_or (x ∷ xs) (k + 1) x in
          below (use_cmp column a b) (ap is_lt (sym ((use_total column).antisymm b a)) ∙ sorted k x (omega arith) lt) (λ e.
          false≢true (sym (apart_from_distinct (eq_by_cmp place_cmp) (x ∷ xs) k (k + 1) x apart (omega arith) lt) ∙ ap is_eq (tied_places column a b e))))

  -- ---- those of a text

  sound-in : (u : Use) → IsIn u uses → IsSound column u
  sound-in u here = all_at (IsSound column) u uses (λ k d lt. record { utf8 = s.utf8 k d lt; own = s.own k d lt }) here

  of-text : (q : List ℕ) (u : Use) → IsIn u (filter (is_of column q) uses) → IsSound column u × (q ≡ text_at column u)
  of-text q u here = let both = from_filter (is_of column q) u uses here in (sound-in u both.0, of column q u both.1)

  places-rise : (q : List ℕ) (xs : List Use) → ((u : Use) → IsIn u xs → IsSound column u × (q ≡ text_at column u)) → IsStrictlySortedBy (use_cmp column) xs → IsStrictlySortedBy place_cmp xs
  unfolding IsStrictlySortedBy
  places-rise q [] each rise = tt
  places-rise q (x ∷ xs) each rise = (later x xs (each x (inl refl)) (λ u here. each u (inr here)) rise.0, places-rise q xs (λ u here. each u (inr here)) rise.1)
    where
      later : (y : Use) (ys : List Use) → IsSound column y × (q ≡ text_at column y) → ((u : Use) → IsIn u ys → IsSound column u × (q ≡ text_at column u)) → AllByRecursion (λ w. use_cmp column y w ≡ Less) ys → AllByRecursion (λ w. place_cmp y w ≡ Less) ys
      later y [] own all r = tt
      later y (z ∷ zs) own all r =
          let at = all z (inl refl) in
          (sym (same_text_places column y z own.0 at.0 (sym own.1 ∙ at.1)) ∙ r.0, later y zs own (λ u here. all u (inr here)) r.1)

  is_in : (xs : List Use) → All (λ u. IsIn u xs) xs
  is_in [] = λ k d lt. absurd (omega (arith, lt))
  is_in (x ∷ xs) = λ k d lt. elim k as (λ n. n < length (x ∷ xs) → IsIn (get_or (x ∷ xs) n d) (x ∷ xs)) [ zero ↦ λ p. inl refl | suc n ↦ λ p. inr (is_in xs n d (omega (arith, p))) ] lt

  moved : (xs ys : List Use) → IsPermutation xs ys → (u : Use) → IsIn u ys → IsIn u xs
  moved xs ys to u here = all_at (λ w. IsIn w xs) u ys (All-permutation (λ w. IsIn w xs) xs ys to (is_in xs)) here

  -- are its uses
  pub filter-sorted : (q : List ℕ) → filter (is_of column q) uses ≡ uses_of q column
  filter-sorted q =
      one_rising place_cmp place_total (filter (is_of column q) uses) (filter (is_of column q) (all_uses column))
      (places-rise q (filter (is_of column q) uses) (of-text q) (IsStrictlySortedBy-filter (use_cmp column) (is_of column q) uses uses_rise))
      (IsStrictlySortedBy-filter place_cmp (is_of column q) (all_uses column) (all-rise column))
      (record {
        to = λ u here. let both = from_filter (is_of column q) u uses here in in_filter (is_of column q) u (all_uses column) (moved (all_uses column) uses s.all u both.0) both.1;
        from = λ u here. let both = from_filter (is_of column q) u (all_uses column) here in in_filter (is_of column q) u uses (moved uses (all_uses column) (IsPermutation-sym (all_uses column) uses s.all) u both.0) both.1;
      })
      ∙ filter-all q column
