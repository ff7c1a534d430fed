-- One segment goes past the least term.
use Rattle.std.proofs.Common.{◌≡◌, ◌⊎◌, ℕ, zero, suc, ◌<◌, false, List, [], ◌∷◌, ◌++◌, length, map, get_or, refl, sym, ap, ◌∙◌, subst, inl, inr, arith}
use Rattle.std.specs.Prelude.{slice_set, slice_index_or, Option, Some, None}
use Rattle.std.specs.List.{AllByRecursion}
use Rattle.std.specs.declared.cmp.Ordering.TheVariants.{Less, Equal, Greater}
use Rattle.std.specs.Ordering.{is_gt, nat_cmp, ordering_then, ordering_reverse}
use Rattle.std.proofs.lemmas.Cmp.{tied_itself}
use Rattle.std.proofs.lemmas.List.{get_or-map}
use mathlib.Core.Bool.{true≢false}
use Rattle.lu_prims.proofs.OrderLemmas.{nat_greater}
use Rattle.lu_model.specs.Index.{Term, term_cmp}
use Rattle.lu_model.specs.Contents.{renumbered}
use Rattle.lu_model.proofs.Words.{IsIn, Each, IsTerm}
use Rattle.lu_model.proofs.Alike.{term_order}
use Rattle.lu_model.proofs.Among.{from_flat_map, in_flat_map}
use Rattle.lu_model.proofs.Each.{each_at, each_in}
use Rattle.lu_model.proofs.Held.{same_term-true}
use Rattle.seg_merger.proofs.RestLemmas.{First, absent, after-less, firsts, flat_map-none, flat_map-set, good-past, map-set, none-found, past-absent, from_without}
use Rattle.seg_merger.specs.TermHeads.{IsBefore, at_source, place_order}
use Rattle.seg_merger.specs.TermSources.{SourceTerm, first_term, name_of_term}
use Rattle.seg_merger.specs.TermRests.{Rest, IsGood, IsLeast, count, entries_for, entries_of_all, given_by, is_head, names, past, rest_heads, without_first}

pub in-at : {X : Type 0} (xs : List X) (k : ℕ) (d : X) → k < length xs → IsIn (get_or xs k d) xs
in-at [] k d h = absurd (omega arith)
in-at (x ∷ xs) zero d h = inl refl
in-at (x ∷ xs) (suc k) d h = inr (in-at xs k d (omega arith))

from_set : {X : Type 0} (xs : List X) (k : ℕ) (x y : X) → IsIn y (slice_set xs k x) → (y ≡ x) ⊎ IsIn y xs
from_set [] k x y h = absurd h
from_set (z ∷ xs) zero x y h = elim h [ inl e ↦ inl e | inr p ↦ inr (inr p) ]
from_set (z ∷ xs) (suc k) x y h = elim h [ inl e ↦ inr (inl e) | inr p ↦ elim (from_set xs k x y p) [ inl e ↦ inl e | inr q ↦ inr (inr q) ] ]

pub count-set : (xs : List Rest) (k : ℕ) (x d : Rest) → k < length xs → length (get_or xs k d).left ≡ suc (length x.left) → count (slice_set xs k x) < count xs
count-set [] k x d h e = absurd (omega arith)
count-set (y ∷ xs) zero x d h e = omega arith
count-set (y ∷ xs) (suc k) x d h e = let rest = count-set xs k x d (omega arith) e in omega arith

-- a segment with these terms left
abbrev pub with_left : Rest → List SourceTerm → Rest
with_left r ts = record { base = r.base; size = r.size; deleted = r.deleted; left = ts }

-- what follows when the first segment goes past the term
pub record Stepped (t : Term) (xs : List Rest) (bits : ℕ) (k : ℕ) (d : Rest) (ys : List Rest) : Type 0 where
  pub good : Each IsGood ys
  pub least : IsLeast t ys
  pub entries : entries_of_all bits xs t ≡ given_by bits t (get_or xs k d) ++ entries_of_all bits ys t
  pub passed : map (past t) ys ≡ map (past t) xs

given-none : (t : Term) (bits : ℕ) (r : Rest) → entries_for t r.left ≡ [] → given_by bits t r ≡ []
given-none t bits r e = ap (renumbered bits r.base r.deleted) e

pub at-in : {X : Type 0} (x : X) (xs : List X) → IsIn x xs → (j : ℕ) × (j < length xs) × (get_or xs j x ≡ x)
at-in x [] h = absurd h
at-in x (y ∷ xs) (inl e) = (0, omega arith, sym e)
at-in x (y ∷ xs) (inr h) = let r = at-in x xs h in (suc r.0, omega (arith, r.1), r.2)

map-same : {X : Type 0} (f : X → X) (xs : List X) → Each (λ x. f x ≡ x) xs → map f xs ≡ xs
map-same f [] h = refl
map-same f (x ∷ xs) h = λ i. h.0 i ∷ map-same f xs h.1 i

-- a segment whose first term is not below the term, and comes after a segment that has it, is past it
module _ (t : Term) (xs : List Rest) (good : Each IsGood xs) (text : IsTerm t) (least_one : IsLeast t xs) where
  first-at : (j : ℕ) (d : Rest) → j < length xs → First t (get_or xs j d).left
  first-at j d h = firsts t xs good text least_one (get_or xs j d) (in-at xs j d h)

  good-at : (j : ℕ) (d : Rest) → j < length xs → IsGood (get_or xs j d)
  good-at j d h = each_at IsGood (get_or xs j d) xs good (in-at xs j d h)

  head-is : (j : ℕ) (d : Rest) (x : SourceTerm) (us : List SourceTerm) → j < length xs → (get_or xs j d).left ≡ x ∷ us → slice_index_or (rest_heads xs) j None ≡ Some x.term
  head-is j d x us h e = get_or-map (λ (r : Rest). first_term r.left) xs j d None h ∙ ap first_term e

  -- those before the first segment that has the term
  pub earlier-absent : (k j : ℕ) (d : Rest) → j < length xs → j < k → slice_index_or (rest_heads xs) k None ≡ Some t → IsBefore (rest_heads xs) k j → (x : SourceTerm) (us : List SourceTerm) → (get_or xs j d).left ≡ x ∷ us → term_cmp t x.term ≡ Less
  earlier-absent k j d h low head before x us e = elim (first-at j d h x us e) [
    | inr less ↦ less
    | inl s ↦
        let tied : term_cmp t x.term ≡ Equal = ap (term_cmp t) (sym (same_term-true t x.term s)) ∙ tied_itself term_order t in
        let shown : is_gt (ordering_then (term_cmp t x.term) (nat_cmp k j)) ≡ false = sym (ap (λ w. is_gt (place_order (record { term = w; source = k }) (at_source (rest_heads xs) j))) head ∙ ap (λ w. is_gt (place_order (record { term = Some t; source = k }) (record { term = w; source = j }))) (head-is j d x us h e)) ∙ before in
        absurd (true≢false (sym (ap (λ o. is_gt (ordering_then o (nat_cmp k j))) tied ∙ ap is_gt (nat_greater k j low)) ∙ shown))
  ]

  -- where the first segment of all has another term, none has this one
  pub all-absent : (k j : ℕ) (d : Rest) → k < length xs → j < length xs → is_head t (slice_index_or (rest_heads xs) k None) ≡ false → IsBefore (rest_heads xs) k j → (x : SourceTerm) (us : List SourceTerm) → (get_or xs j d).left ≡ x ∷ us → term_cmp t x.term ≡ Less
  all-absent k j d h i other before x us e = elim (first-at j d i x us e) [
    | inr less ↦ less
    | inl s ↦
        let same : x.term ≡ t = sym (same_term-true t x.term s) in
        let there : slice_index_or (rest_heads xs) j None ≡ Some t = head-is j d x us i e ∙ ap (λ (w : Term). let o : Option Term = Some w in o) same in
        let shown : is_gt (place_order (at_source (rest_heads xs) k) (record { term = Some t; source = j })) ≡ false = sym (ap (λ w. is_gt (place_order (at_source (rest_heads xs) k) (record { term = w; source = j }))) there) ∙ before in
        absurd (root (get_or xs k d).left refl (get_or-map (λ (r : Rest). first_term r.left) xs k d None h) shown)
  ]
    where
      root : (ts : List SourceTerm) → (get_or xs k d).left ≡ ts → slice_index_or (rest_heads xs) k None ≡ first_term (get_or xs k d).left → is_gt (place_order (at_source (rest_heads xs) k) (record { term = Some t; source = j })) ≡ false → ⊥
      root [] q r shown = true≢false (sym (ap (λ w. is_gt (place_order (record { term = w; source = k }) (record { term = Some t; source = j }))) (r ∙ ap first_term q)) ∙ shown)
      root (v ∷ vs) q r shown = elim (first-at k d h v vs q) [
        | inl s ↦ true≢false (sym s ∙ sym (ap (is_head t) (r ∙ ap first_term q)) ∙ other)
        | inr less ↦
            let more : term_cmp v.term t ≡ Greater = term_order.antisymm v.term t ∙ ap ordering_reverse less in
            true≢false (sym (ap (λ o. is_gt (ordering_then o (nat_cmp k j))) more) ∙ sym (ap (λ w. is_gt (place_order (record { term = w; source = k }) (record { term = Some t; source = j }))) (r ∙ ap first_term q)) ∙ shown)
      ]

  less-all : (k : ℕ) (d : Rest) → k < length xs → AllByRecursion (λ u. term_cmp t u ≡ Less) (map name_of_term (without_first t (get_or xs k d).left))
  less-all k d h = after-less t (get_or xs k d).left (good-at k d h).rise (first-at k d h)

  first-less : (ts : List SourceTerm) → AllByRecursion (λ u. term_cmp t u ≡ Less) (map name_of_term ts) → (x : SourceTerm) (us : List SourceTerm) → ts ≡ x ∷ us → term_cmp t x.term ≡ Less
  first-less ts h x us e = let at : AllByRecursion (λ u. term_cmp t u ≡ Less) (map name_of_term (x ∷ us)) = subst (λ w. AllByRecursion (λ u. term_cmp t u ≡ Less) (map name_of_term w)) e h in at.0

  pub stepped : (bits : ℕ) (k : ℕ) (d : Rest) → k < length xs → slice_index_or (rest_heads xs) k None ≡ Some t → ((j : ℕ) → j < length xs → IsBefore (rest_heads xs) k j) → Stepped t xs bits k d (slice_set xs k (past t (get_or xs k d)))
  stepped bits k d h head before = record {
    good = each_in IsGood (slice_set xs k (past t (get_or xs k d))) (λ r i. elim (from_set xs k (past t (get_or xs k d)) r i) [ inl e ↦ subst IsGood (sym e) (good-past t (get_or xs k d) (good-at k d h)) | inr p ↦ each_at IsGood r xs good p ]);
    least = each_in (λ u. is_gt (term_cmp t u) ≡ false) (names (slice_set xs k (past t (get_or xs k d)))) (λ u i.
        let r = from_flat_map (λ (rest : Rest). map name_of_term rest.left) u (slice_set xs k (past t (get_or xs k d))) i in
        each_at (λ v. is_gt (term_cmp t v) ≡ false) u (names xs) least_one (elim (from_set xs k (past t (get_or xs k d)) r.0 r.1) [
          | inl e ↦ in_flat_map (λ (rest : Rest). map name_of_term rest.left) (get_or xs k d) u xs (in-at xs k d h) (from_without t u (get_or xs k d).left (subst (λ (w : Rest). IsIn u (map name_of_term w.left)) e r.2))
          | inr p ↦ in_flat_map (λ (rest : Rest). map name_of_term rest.left) r.0 u xs p r.2
        ]));
    entries = flat_map-set (given_by bits t) xs k (past t (get_or xs k d)) d h
        (λ j low. let inside : j < length xs = omega arith in given-none t bits (get_or xs j d) (absent t (get_or xs j d).left (good-at j d inside).rise (earlier-absent k j d inside low head (before j inside))))
        (given-none t bits (past t (get_or xs k d)) (none-found t (without_first t (get_or xs k d).left) (less-all k d h)));
    passed = map-set (past t) xs k (past t (get_or xs k d)) d h (ap (with_left (get_or xs k d)) (past-absent t (without_first t (get_or xs k d).left) (first-less (without_first t (get_or xs k d).left) (less-all k d h))));
  }

  -- where the first segment has another term, all are past this one
  less-each : (k : ℕ) → k < length xs → is_head t (slice_index_or (rest_heads xs) k None) ≡ false → ((j : ℕ) → j < length xs → IsBefore (rest_heads xs) k j) → (r : Rest) → IsIn r xs → (x : SourceTerm) (us : List SourceTerm) → r.left ≡ x ∷ us → term_cmp t x.term ≡ Less
  less-each k h other before r i x us e =
      let a = at-in r xs i in
      all-absent k a.0 r h a.1 other (before a.0 a.1) x us (ap (λ (w : Rest). w.left) a.2 ∙ e)

  pub ended-entries : (bits : ℕ) (k : ℕ) → k < length xs → is_head t (slice_index_or (rest_heads xs) k None) ≡ false → ((j : ℕ) → j < length xs → IsBefore (rest_heads xs) k j) → entries_of_all bits xs t ≡ []
  ended-entries bits k h other before = flat_map-none (given_by bits t) xs (each_in (λ (r : Rest). given_by bits t r ≡ []) xs (λ r i. given-none t bits r (absent t r.left (each_at IsGood r xs good i).rise (less-each k h other before r i))))

  pub ended-passed : (k : ℕ) → k < length xs → is_head t (slice_index_or (rest_heads xs) k None) ≡ false → ((j : ℕ) → j < length xs → IsBefore (rest_heads xs) k j) → map (past t) xs ≡ xs
  ended-passed k h other before = map-same (past t) xs (each_in (λ (r : Rest). past t r ≡ r) xs (λ r i. ap (with_left r) (past-absent t r.left (less-each k h other before r i))))
