-- The segment that comes first gives its entries to the term that is merged, and goes past it.
use Rattle.std.proofs.Common.{◌≡◌, ◌||◌, ℕ, suc, ◌<◌, Bool, not, true, false, cond, List, [], ◌∷◌, ◌++◌, length, map, get_or, refl, sym, ap, ◌∙◌, subst, arith}
use Rattle.std.specs.Prelude.{slice_set, slice_index_or, Option, Some, None}
use Rattle.std.specs.List.{find}
use mathlib.Core.Bool.{true≢false}
use Rattle.lu_types.specs.Joins.{is_empty}
use Rattle.lu_model.specs.Index.{Term, IndexedEntry}
use Rattle.lu_model.specs.Contents.{renumbered}
use Rattle.lu_model.proofs.Words.{Each}
use Rattle.lu_model.proofs.Each.{each_at}
use Rattle.lu_model.proofs.Held.{same_term-true}
use Rattle.seg_merger.specs.TermSources.{SourceTerm, after_first, entries_of_first, first_term}
use Rattle.seg_merger.specs.TermRests.{ComesFirst, IsGood, IsLeast, IsName, Rest, count, entries_for, entries_if_any, entries_of_all, given_by, is_head, past, rest_heads, same_term, without_first}
use Rattle.seg_merger.proofs.RestLemmas.{text-of}
use Rattle.seg_merger.proofs.StepLemmas.{Stepped, count-set, ended-entries, ended-passed, in-at, stepped, with_left}
use Rattle.seg_merger.proofs.TreeLemmas.{head-at}

pub is_head-some : (t : Term) (head : Option Term) → is_head t head ≡ true → head ≡ Some t
is_head-some t None e = absurd (true≢false (sym e))
is_head-some t (Some u) e = ap (λ (w : Term). let o : Option Term = Some w in o) (sym (same_term-true t u e))

-- the entries of the first term, where it is this one
pub given-first : (bits : ℕ) (t : Term) (r : Rest) → is_head t (first_term r.left) ≡ true → given_by bits t r ≡ renumbered bits r.base r.deleted (entries_of_first r.left)
given-first bits t r e = ap (renumbered bits r.base r.deleted) (found r.left e)
  where
    found : (ts : List SourceTerm) → is_head t (first_term ts) ≡ true → entries_for t ts ≡ entries_of_first ts
    found [] e = refl
    found (x ∷ ts) e = ap (λ b. entries_if_any (cond b (Some x) (find (λ (u : SourceTerm). same_term t u.term) ts))) e

after-without : (t : Term) (ts : List SourceTerm) → is_head t (first_term ts) ≡ true → after_first ts ≡ without_first t ts
after-without t [] e = refl
after-without t (x ∷ ts) e = sym (ap (λ b. cond b ts (x ∷ ts)) e)

after-shorter : (t : Term) (ts : List SourceTerm) → is_head t (first_term ts) ≡ true → length ts ≡ suc (length (after_first ts))
after-shorter t [] e = absurd (true≢false (sym e))
after-shorter t (x ∷ ts) e = refl

pub head-some : (t : Term) (ts : List SourceTerm) → is_head t (first_term ts) ≡ true → 0 < length ts
head-some t [] e = absurd (true≢false (sym e))
head-some t (x ∷ ts) e = omega arith

-- what the entries of the first term of a good segment are
pub low-first : (r : Rest) → IsGood r → Each (λ (e : IndexedEntry). e.document < r.size) (entries_of_first r.left)
low-first r good = at r.left good.low
  where
    at : (ts : List SourceTerm) → Each (λ t. Each (λ (e : IndexedEntry). e.document < r.size) t.entries) ts → Each (λ (e : IndexedEntry). e.document < r.size) (entries_of_first ts)
    at [] h = tt
    at (x ∷ ts) h = h.0

-- the segment behind its first term
abbrev pub gone : Rest → Rest
gone r = with_left r (after_first r.left)

module _ (t : Term) (rests : List Rest) (k : ℕ) (d : Rest) (good : Each IsGood rests) (name : IsName t) (least_one : IsLeast t rests) (first : ComesFirst rests k) where
  abbrev here : Rest
  here = get_or rests k d

  pub good-here : IsGood here
  good-here = each_at IsGood here rests good (in-at rests k d first.inside)

  head-there : slice_index_or (rest_heads rests) k None ≡ first_term here.left
  head-there = head-at rests k d first.inside

  pub turn : (bits : ℕ) → is_head t (first_term here.left) ≡ true → Stepped t rests bits k d (slice_set rests k (gone here))
  turn bits e =
      let same : past t here ≡ gone here = ap (with_left here) (sym (after-without t here.left e)) in
      subst (λ r. Stepped t rests bits k d (slice_set rests k r)) same
      (stepped t rests good (text-of t name) least_one bits k d first.inside (is_head-some t (slice_index_or (rest_heads rests) k None) (ap (is_head t) head-there ∙ e)) first.least)

  pub turn-shorter : is_head t (first_term here.left) ≡ true → count (slice_set rests k (gone here)) < count rests
  turn-shorter e = count-set rests k (gone here) d first.inside (after-shorter t here.left e)

  pub ended-none : (bits : ℕ) → is_head t (first_term here.left) ≡ false → entries_of_all bits rests t ≡ []
  ended-none bits e = ended-entries t rests good (text-of t name) least_one bits k first.inside (ap (is_head t) head-there ∙ e) first.least

  pub ended-past : is_head t (first_term here.left) ≡ false → map (past t) rests ≡ rests
  ended-past e = ended-passed t rests good (text-of t name) least_one k first.inside (ap (is_head t) head-there ∙ e) first.least

  -- what the term gets from it, and from all behind that
  pub turn-entries : (bits : ℕ) → is_head t (first_term here.left) ≡ true → (r : Rest) → r ≡ here
      → entries_of_all bits rests t ≡ renumbered bits r.base r.deleted (entries_of_first r.left) ++ entries_of_all bits (slice_set rests k (gone here)) t
  turn-entries bits e r is =
      (turn bits e).entries
      ∙ ap (λ w. w ++ entries_of_all bits (slice_set rests k (gone here)) t) (given-first bits t here e ∙ ap (λ (x : Rest). renumbered bits x.base x.deleted (entries_of_first x.left)) (sym is))

-- ---- whether there were entries

module _ {X : Type 0} (some added v : Bool) (own rest now initial : List X) (is : v ≡ (some || added)) (adds : added ≡ not (is_empty own)) (split : now ≡ own ++ rest) where
  pub either-none : (some ≡ false → now ≡ initial) → v ≡ false → rest ≡ initial
  either-none none e = at some added own refl refl refl
    where
      at : (s a : Bool) (xs : List X) → some ≡ s → added ≡ a → own ≡ xs → rest ≡ initial
      at true a xs q r u = absurd (let never : true ≡ false = sym (is ∙ ap (λ b. b || added) q) ∙ e in cc)
      at false true xs q r u = absurd (let never : true ≡ false = sym (is ∙ ap (λ b. b || added) q ∙ r) ∙ e in cc)
      at false false [] q r u = sym (split ∙ ap (λ w. w ++ rest) u) ∙ none q
      at false false (x ∷ xs) q r u = absurd (let never : false ≡ true = sym r ∙ adds ∙ ap (λ w. not (is_empty w)) u in cc)

  pub either-some : (some ≡ false → now ≡ initial) → (some ≡ true → 0 < length initial) → v ≡ true → 0 < length initial
  either-some none there e = at some own refl refl
    where
      at : (s : Bool) (xs : List X) → some ≡ s → own ≡ xs → 0 < length initial
      at true xs q u = there q
      at false [] q u = absurd (let never : true ≡ false = sym e ∙ is ∙ ap (λ b. b || added) q ∙ adds ∙ ap (λ w. not (is_empty w)) u in cc)
      at false (x ∷ xs) q u = let size = ap length (sym (none q) ∙ split ∙ ap (λ w. w ++ rest) u) in omega (arith, size)

pub some-is : {X : Type 0} (some : Bool) (now initial : List X) → (some ≡ false → now ≡ initial) → (some ≡ true → 0 < length initial) → now ≡ [] → some ≡ not (is_empty initial)
some-is false now initial none there e = ap (λ w. not (is_empty w)) (sym e ∙ none refl)
some-is true now [] none there e = absurd (let size = there refl in omega (arith, size))
some-is true now (x ∷ xs) none there e = refl
