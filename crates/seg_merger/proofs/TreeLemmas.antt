-- A tournament: one node more, one head changed, and its root.
use Rattle.std.proofs.Common.{◌≡◌, ◌≢◌, ◌⊎◌, ℕ, zero, suc, ◌+◌, ◌*◌, ◌/◌, ◌<◌, ◌≤◌, true, false, List, length, get_or, refl, sym, ap, ◌∙◌, subst, inl, inr, arith, get_or-set_other, get_or-set_same, eqb, eqb-true, eq-eqb}
use Rattle.std.proofs.Math.ListN.{length-set}
use Rattle.std.proofs.lemmas.List.{get_or-map, length-map}
use mathlib.Core.Bool.{true≢false}
use Rattle.std.specs.Prelude.{slice_set, slice_index_or, Option, None}
use Rattle.std.specs.Cmp.{IsTotalOrder}
use Rattle.std.specs.declared.cmp.Ordering.{Ordering}
use Rattle.std.specs.declared.cmp.Ordering.TheVariants.{Less, Equal, Greater}
use Rattle.std.specs.Ordering.{nat_cmp, is_gt, ordering_then, ordering_reverse}
use Rattle.std.proofs.lemmas.Cmp.{upto, tied_itself, on_total, then_total, nat_cmp_total}
use Rattle.lu_model.specs.Index.{Term}
use Rattle.lu_model.proofs.Alike.{term_order}
use Rattle.seg_merger.specs.TermHeads.{Head, IsBefore, IsBuilt, IsFirst, IsNearly, IsOver, IsTournament, at_source, head_order, name_or_empty, place_order, rank, up}
use Rattle.seg_merger.specs.TermRests.{Rest, rest_heads}
use Rattle.seg_merger.specs.TermSources.{first_term}

head_total : IsTotalOrder head_order
head_total = then_total (on_total rank nat_cmp_total) (on_total name_or_empty term_order)

pub place_total : IsTotalOrder place_order
place_total = then_total (on_total (λ (h : Head). h.term) head_total) (on_total (λ (h : Head). h.source) nat_cmp_total)

pub before-trans : (heads : List (Option Term)) (a b c : ℕ) → IsBefore heads a b → IsBefore heads b c → IsBefore heads a c
before-trans heads a b c h k = upto place_total (at_source heads a) (at_source heads b) (at_source heads c) h k

pub before-itself : (heads : List (Option Term)) (a : ℕ) → IsBefore heads a a
before-itself heads a = ap is_gt (tied_itself place_total (at_source heads a))

-- ---- nodes

up-half : (m n : ℕ) → up m (n / 2) ≡ up m n / 2
up-half zero n = refl
up-half (suc m) n = ap (λ k. k / 2) (up-half m n)

up-zero : (m : ℕ) → up m 0 ≡ 0
up-zero zero = refl
up-zero (suc m) = ap (λ k. k / 2) (up-zero m)

half-double : (j : ℕ) → (2 * j) / 2 ≡ j
half-double j = omega arith

half-odd : (j : ℕ) → (2 * j + 1) / 2 ≡ j
half-odd j = omega arith

-- what is above the other and is not it is above its half
over-half : (i j : ℕ) → i ≢ j → IsOver i j → IsOver i (j / 2)
over-half i j differ (zero, e) = absurd (differ e)
over-half i j differ (suc m, e) = (m, e ∙ sym (up-half m j))

over-left : (j n : ℕ) → IsOver (2 * j) n → IsOver j n
over-left j n (m, e) = (suc m, sym (half-double j) ∙ ap (λ k. k / 2) e)

over-right : (j n : ℕ) → IsOver (2 * j + 1) n → IsOver j n
over-right j n (m, e) = (suc m, sym (half-odd j) ∙ ap (λ k. k / 2) e)

over-none : (j : ℕ) → 1 ≤ j → IsOver j 0 → ⊥
over-none j h (m, e) = let none = up-zero m in absurd (omega (arith, e, none))

-- ---- which of two comes first

pub before-less : (heads : List (Option Term)) (a b : ℕ) (o : Ordering) → o ≡ place_order (at_source heads a) (at_source heads b) → (o ≡ Greater → ⊥) → IsBefore heads a b
before-less heads a b Less e differ = sym (ap is_gt e)
before-less heads a b Equal e differ = sym (ap is_gt e)
before-less heads a b Greater e differ = absurd (differ refl)

pub before-greater : (heads : List (Option Term)) (a b : ℕ) → Greater ≡ place_order (at_source heads a) (at_source heads b) → IsBefore heads b a
before-greater heads a b e = ap is_gt (place_total.antisymm (at_source heads b) (at_source heads a)) ∙ ap (λ o. is_gt (ordering_reverse o)) (sym e)

-- the first term of a segment by its place
pub head-at : (rests : List Rest) (k : ℕ) (d : Rest) → k < length rests → slice_index_or (rest_heads rests) k None ≡ first_term (get_or rests k d).left
head-at rests k d h = get_or-map (λ (r : Rest). first_term r.left) rests k d None h

-- the order of two segments, as the code finds it
pub compared : (rests : List Rest) (a b : ℕ) (at_a at_b : Rest) (p q : Option Term) (o r t : Ordering) → a < length rests → b < length rests
    → p ≡ first_term (get_or rests a at_a).left → q ≡ first_term (get_or rests b at_b).left → o ≡ head_order p q → r ≡ nat_cmp a b → t ≡ ordering_then o r
    → t ≡ place_order (at_source (rest_heads rests) a) (at_source (rest_heads rests) b)
compared rests a b at_a at_b p q o r t h k fa fb eo er et =
    et ∙ ap (λ w. ordering_then w r) (eo ∙ ap (λ w. head_order w q) (fa ∙ sym (head-at rests a at_a h)) ∙ ap (λ w. head_order (slice_index_or (rest_heads rests) a None) w) (fb ∙ sym (head-at rests b at_b k)))
    ∙ ap (λ w. ordering_then (head_order (slice_index_or (rest_heads rests) a None) (slice_index_or (rest_heads rests) b None)) w) er

-- ---- trees

decide : (a b : ℕ) → (a ≡ b) ⊎ (a ≢ b)
decide a b = elim (eqb a b) as (λ v. eqb a b ≡ v → (a ≡ b) ⊎ (a ≢ b)) [
  | true ↦ λ e. inl (eqb-true a b e)
  | false ↦ λ e. inr (λ q. true≢false (sym (eq-eqb a b q) ∙ e))
] refl

module _ (heads : List (Option Term)) where
  before-same : (a b c d : ℕ) → a ≡ c → b ≡ d → IsBefore heads c d → IsBefore heads a b
  before-same a b c d p q h = subst (λ w. IsBefore heads w b) (sym p) (subst (λ w. IsBefore heads c w) (sym q) h)

  module _ (tree : List ℕ) (i x : ℕ) where
    abbrev new : ℕ → ℕ
    new j = get_or (slice_set tree i x) j 0

    kept-first : (j : ℕ) → j ≢ i → 2 * j ≢ i → 2 * j + 1 ≢ i → IsFirst heads tree j → IsFirst heads (slice_set tree i x) j
    kept-first j p q r f = record {
      left = before-same (new j) (new (2 * j)) _ _ (get_or-set_other tree i j x 0 p) (get_or-set_other tree i (2 * j) x 0 q) f.left;
      right = before-same (new j) (new (2 * j + 1)) _ _ (get_or-set_other tree i j x 0 p) (get_or-set_other tree i (2 * j + 1) x 0 r) f.right;
    }

    new-first : 1 ≤ i → i < length tree → IsBefore heads x (get_or tree (2 * i) 0) → IsBefore heads x (get_or tree (2 * i + 1) 0) → IsFirst heads (slice_set tree i x) i
    new-first low inner f g = record {
      left = before-same (new i) (new (2 * i)) _ _ (get_or-set_same tree i x 0 inner) (get_or-set_other tree i (2 * i) x 0 (λ e. absurd (omega arith))) f;
      right = before-same (new i) (new (2 * i + 1)) _ _ (get_or-set_same tree i x 0 inner) (get_or-set_other tree i (2 * i + 1) x 0 (λ e. absurd (omega arith))) g;
    }

    -- a fact of each place, at the new one and at the others
    at-each : (P : ℕ → ℕ → Type 0) (j : ℕ) → i < length tree → P i x → (j ≢ i → P j (get_or tree j 0)) → P j (new j)
    at-each P j inner here there = elim (decide j i) [
      | inl e ↦ subst (λ w. P w (new w)) (sym e) (subst (P i) (sym (get_or-set_same tree i x 0 inner)) here)
      | inr d ↦ subst (P j) (sym (get_or-set_other tree i j x 0 d)) (there d)
    ]

    -- the new one is one of those below
    over-new : IsOver (2 * i) (length heads + get_or tree (2 * i) 0) → IsOver (2 * i + 1) (length heads + get_or tree (2 * i + 1) 0) → (x ≡ get_or tree (2 * i) 0) ⊎ (x ≡ get_or tree (2 * i + 1) 0) → IsOver i (length heads + x)
    over-new left right (inl e) = over-left i (length heads + x) (subst (λ w. IsOver (2 * i) (length heads + w)) (sym e) left)
    over-new left right (inr e) = over-right i (length heads + x) (subst (λ w. IsOver (2 * i + 1) (length heads + w)) (sym e) right)

    below-new : get_or tree (2 * i) 0 < length heads → get_or tree (2 * i + 1) 0 < length heads → (x ≡ get_or tree (2 * i) 0) ⊎ (x ≡ get_or tree (2 * i + 1) 0) → x < length heads
    below-new left right (inl e) = omega arith
    below-new left right (inr e) = omega arith

-- one node more from the end
pub built-more : (heads : List (Option Term)) (tree : List ℕ) (i x : ℕ) → IsBuilt heads tree (i + 1) → 1 ≤ i → i < length heads → (x ≡ get_or tree (2 * i) 0) ⊎ (x ≡ get_or tree (2 * i + 1) 0) → IsBefore heads x (get_or tree (2 * i) 0) → IsBefore heads x (get_or tree (2 * i + 1) 0) → IsBuilt heads (slice_set tree i x) i
built-more heads tree i x b low inner either left right =
    let size = b.all in
    let within : i < length tree = omega arith in
    let long : length (slice_set tree i x) ≡ length tree = length-set tree i x in
    let one : 2 * i < length tree = omega arith in
    let two : 2 * i + 1 < length tree = omega arith in
    let up_one : i + 1 ≤ 2 * i = omega arith in
    let up_two : i + 1 ≤ 2 * i + 1 = omega arith in
    record {
      all = long ∙ b.all;
      below = λ j h k.
          at-each heads tree i x (λ _ v. v < length heads) j within (below-new heads tree i x (b.below (2 * i) up_one one) (b.below (2 * i + 1) up_two two) either)
          (λ d. let later : i + 1 ≤ j = omega arith in let inside : j < length tree = omega arith in b.below j later inside);
      over = λ j h k.
          at-each heads tree i x (λ w v. IsOver w (length heads + v)) j within (over-new heads tree i x (b.over (2 * i) up_one one) (b.over (2 * i + 1) up_two two) either)
          (λ d. let later : i + 1 ≤ j = omega arith in let inside : j < length tree = omega arith in b.over j later inside);
      first = λ j h k. elim (decide j i) [
        | inl e ↦ subst (IsFirst heads (slice_set tree i x)) (sym e) (new-first heads tree i x low within left right)
        | inr d ↦ kept-first heads tree i x j d (λ e. absurd (omega arith)) (λ e. absurd (omega arith)) (b.first j (omega arith) k)
      ];
    }

-- one node nearer to the root
pub nearly-more : (heads : List (Option Term)) (tree : List ℕ) (i x : ℕ) → IsNearly heads tree i → 1 ≤ i → i < length heads → (x ≡ get_or tree (2 * i) 0) ⊎ (x ≡ get_or tree (2 * i + 1) 0) → IsBefore heads x (get_or tree (2 * i) 0) → IsBefore heads x (get_or tree (2 * i + 1) 0) → IsNearly heads (slice_set tree i x) (i / 2)
nearly-more heads tree i x b low inner either left right =
    let size = b.all in
    let within : i < length tree = omega arith in
    let long : length (slice_set tree i x) ≡ length tree = length-set tree i x in
    let one : 2 * i < length tree = omega arith in
    let two : 2 * i + 1 < length tree = omega arith in
    let up_one : 1 ≤ 2 * i = omega arith in
    let up_two : 1 ≤ 2 * i + 1 = omega arith in
    record {
      all = long ∙ b.all;
      below = λ j h k.
          at-each heads tree i x (λ _ v. v < length heads) j within (below-new heads tree i x (b.below (2 * i) up_one one) (b.below (2 * i + 1) up_two two) either)
          (λ d. let inside : j < length tree = omega arith in b.below j h inside);
      over = λ j h k.
          at-each heads tree i x (λ w v. IsOver w (length heads + v)) j within (over-new heads tree i x (b.over (2 * i) up_one one) (b.over (2 * i + 1) up_two two) either)
          (λ d. let inside : j < length tree = omega arith in b.over j h inside);
      first = λ j h k. elim (decide j i) [
        | inl e ↦ inl (subst (IsFirst heads (slice_set tree i x)) (sym e) (new-first heads tree i x low within left right))
        | inr d ↦ elim (decide j (i / 2)) [
          | inl e ↦ inr (0, e)
          | inr f ↦ elim (b.first j h k) [
            | inl g ↦ inl (kept-first heads tree i x j d (λ e. absurd (f (sym (half-double j) ∙ ap (λ w. w / 2) e))) (λ e. absurd (f (sym (half-odd j) ∙ ap (λ w. w / 2) e))) g)
            | inr o ↦ inr (over-half j i d o)
          ]
        ]
      ];
    }

pub nearly-all : (heads : List (Option Term)) (tree : List ℕ) → IsNearly heads tree 0 → IsTournament heads tree
nearly-all heads tree b = record {
  all = b.all;
  below = b.below;
  over = b.over;
  first = λ j low inner. elim (b.first j low inner) [ inl f ↦ f | inr o ↦ absurd (over-none j low o) ];
}

-- one head changed
pub nearly-changed : (old heads : List (Option Term)) (tree : List ℕ) (k : ℕ) → IsTournament old tree → length heads ≡ length old → k < length heads → ((j : ℕ) → j ≢ k → slice_index_or heads j None ≡ slice_index_or old j None) → IsNearly heads tree ((length heads + k) / 2)
nearly-changed old heads tree k b same inner kept = record {
  all = b.all ∙ ap (λ n. 2 * n) (sym same);
  below = λ j h i. subst (λ n. get_or tree j 0 < n) (sym same) (b.below j h i);
  over = over;
  first = λ j low within.
      let size = b.all in
      let leaf : j ≢ length heads + k = λ e. absurd (omega arith) in
      let found : (c : ℕ) → 1 ≤ c → c < length tree → (IsOver c (length heads + k) → IsOver j (length heads + k)) → (get_or tree c 0 ≢ k) ⊎ IsOver j ((length heads + k) / 2) =
      λ c h i to. elim (decide (get_or tree c 0) k) [
        | inl e ↦ inr (over-half j (length heads + k) leaf (to (subst (λ w. IsOver c (length heads + w)) e (over c h i))))
        | inr d ↦ inl d
      ] in
      let one : 2 * j < length tree = omega arith in
      let two : 2 * j + 1 < length tree = omega arith in
      elim (found j low (omega arith) (λ o. o)) [
        | inr o ↦ inr o
        | inl p ↦ elim (found (2 * j) (omega arith) one (over-left j (length heads + k))) [
          | inr o ↦ inr o
          | inl q ↦ elim (found (2 * j + 1) (omega arith) two (over-right j (length heads + k))) [
            | inr o ↦ inr o
            | inl r ↦
                let f = b.first j low (omega arith) in
                inl (record { left = moved (get_or tree j 0) (get_or tree (2 * j) 0) p q f.left; right = moved (get_or tree j 0) (get_or tree (2 * j + 1) 0) p r f.right })
          ]
        ]
      ];
}
  where
    over : (j : ℕ) → 1 ≤ j → j < length tree → IsOver j (length heads + get_or tree j 0)
    over j h i = subst (λ n. IsOver j (n + get_or tree j 0)) (sym same) (b.over j h i)

    moved : (a c : ℕ) → a ≢ k → c ≢ k → IsBefore old a c → IsBefore heads a c
    moved a c p q h =
        ap (λ w. is_gt (place_order (record { term = w; source = a }) (at_source heads c))) (kept a p)
        ∙ ap (λ w. is_gt (place_order (at_source old a) (record { term = w; source = c }))) (kept c q) ∙ h

up-le : (m n : ℕ) → up m n ≤ n
up-le zero n = omega arith
up-le (suc m) n = let rest = up-le m n in omega arith

-- the root is a segment that comes before all others
pub root-first : (heads : List (Option Term)) (tree : List ℕ) → IsTournament heads tree → (k : ℕ) → k < length heads → IsBefore heads (get_or tree 1 0) k
root-first heads tree b k inner =
    let size = b.all in
    let node : length heads + k < length tree = omega arith in
    let low : 1 ≤ length heads + k = omega arith in
    subst (IsBefore heads (get_or tree 1 0)) (leaf (b.below (length heads + k) low node) (b.over (length heads + k) low node)) (walk (length heads + k) (length heads + k) (omega arith) low node)
  where
    walk : (m node : ℕ) → node ≤ m → 1 ≤ node → node < length tree → IsBefore heads (get_or tree 1 0) (get_or tree node 0)
    walk zero node h low in_tree = absurd (omega arith)
    walk (suc m) node h low in_tree = elim (decide node 1) [
      | inl e ↦ subst (λ w. IsBefore heads (get_or tree 1 0) (get_or tree w 0)) (sym e) (before-itself heads (get_or tree 1 0))
      | inr d ↦
          let size = b.all in
          let half = node / 2 in
          let half_low : 1 ≤ node / 2 = omega arith in
          let half_in : node / 2 < length heads = omega arith in
          let f = b.first (node / 2) half_low half_in in
          let to_half = walk m (node / 2) (omega arith) half_low (omega arith) in
          elim (decide node (2 * (node / 2))) [
            | inl e ↦ before-trans heads (get_or tree 1 0) (get_or tree (node / 2) 0) (get_or tree node 0) to_half (subst (λ w. IsBefore heads (get_or tree (node / 2) 0) (get_or tree w 0)) (sym e) f.left)
            | inr o ↦
                let odd : node ≡ 2 * (node / 2) + 1 = omega arith in
                before-trans heads (get_or tree 1 0) (get_or tree (node / 2) 0) (get_or tree node 0) to_half (subst (λ w. IsBefore heads (get_or tree (node / 2) 0) (get_or tree w 0)) (sym odd) f.right)
          ]
    ]

    leaf : get_or tree (length heads + k) 0 < length heads → IsOver (length heads + k) (length heads + get_or tree (length heads + k) 0) → get_or tree (length heads + k) 0 ≡ k
    leaf low (zero, e) = omega arith
    leaf low (suc m, e) = let most = up-le m (length heads + get_or tree (length heads + k) 0) in absurd (omega arith)

pub length-heads : (rests : List Rest) → length (rest_heads rests) ≡ length rests
length-heads rests = length-map rests (λ (r : Rest). first_term r.left)

-- a tree that has only its segments
pub leaves-built : (heads : List (Option Term)) (tree items : List ℕ) (n : ℕ) → tree ≡ items → length heads ≡ n → length items ≡ n + n → ((j : ℕ) → n ≤ j → j < n + n → n + get_or items j 0 ≡ j) → IsBuilt heads tree n
leaves-built heads tree items n same size long leaf = subst (λ t. IsBuilt heads t n) (sym same) (record {
  all = omega arith;
  below = λ j low high. let is = leaf j low (omega arith) in omega arith;
  over = λ j low high. let is = leaf j low (omega arith) in (0, omega (arith, is));
  first = λ j low high. absurd (omega arith);
})
