-- The first of a list that passes a test, and those that do, by their places.
use Rattle.std.proofs.Common.{◌≡◌, ℕ, zero, suc, ◌+◌, ◌<◌, ◌≤◌, Bool, true, false, cond, List, [], ◌∷◌, length, get_or, Some, None, refl, sym, ap, ◌∙◌, arith}
use Rattle.std.specs.Prelude.{filter}
use Rattle.std.specs.List.{find}

-- the first that passes is at this place
pub record IsFirst {X : Type 0} (test : X → Bool) (xs : List X) (d : X) (place : ℕ) : Type 0 where
  pub within : place < length xs
  pub passes : test (get_or xs place d) ≡ true
  pub none : (i : ℕ) → i < place → test (get_or xs i d) ≡ false

-- none passes
pub record PassesNowhere {X : Type 0} (test : X → Bool) (xs : List X) (d : X) : Type 0 where
  pub none : (i : ℕ) → i < length xs → test (get_or xs i d) ≡ false

-- the rest of a list, behind its first
nowhere-rest : {X : Type 0} (test : X → Bool) (x : X) (xs : List X) (d : X) → PassesNowhere test (x ∷ xs) d → PassesNowhere test xs d
nowhere-rest test x xs d h = record { none = λ i lt. h.none (suc i) (omega arith) }

first-rest : {X : Type 0} (test : X → Bool) (x : X) (xs : List X) (d : X) (place : ℕ) → IsFirst test (x ∷ xs) d (suc place) → IsFirst test xs d place
first-rest test x xs d place h = record { within = let lt = h.within in omega (arith, lt); passes = h.passes; none = λ i lt. h.none (suc i) (omega arith) }

pub find-nowhere : {X : Type 0} (test : X → Bool) (xs : List X) (d : X) → PassesNowhere test xs d → find test xs ≡ None
find-nowhere test [] d h = refl
find-nowhere {X} test (x ∷ xs) d h = ap (λ (b : Bool). cond b (Some x) (find test xs)) (h.none 0 (omega arith)) ∙ find-nowhere test xs d (nowhere-rest test x xs d h)

pub find-first : {X : Type 0} (test : X → Bool) (xs : List X) (d : X) (place : ℕ) → IsFirst test xs d place → find test xs ≡ Some (get_or xs place d)
find-first test [] d place h = absurd (let lt = h.within in omega (arith, lt))
find-first test (x ∷ xs) d zero h = ap (λ (b : Bool). cond b (Some x) (find test xs)) h.passes
find-first test (x ∷ xs) d (suc place) h = ap (λ (b : Bool). cond b (Some x) (find test xs)) (h.none 0 (omega arith)) ∙ find-first test xs d place (first-rest test x xs d place h)

pub filter-nowhere : {X : Type 0} (test : X → Bool) (xs : List X) (d : X) → PassesNowhere test xs d → filter test xs ≡ []
filter-nowhere test [] d h = refl
filter-nowhere test (x ∷ xs) d h = ap (λ (b : Bool). cond b (x ∷ filter test xs) (filter test xs)) (h.none 0 (omega arith)) ∙ filter-nowhere test xs d (nowhere-rest test x xs d h)

-- two tests agree on a list
pub filter-same : {X : Type 0} (test other : X → Bool) (xs : List X) (d : X) → ((i : ℕ) → i < length xs → test (get_or xs i d) ≡ other (get_or xs i d)) → filter test xs ≡ filter other xs
filter-same test other [] d h = refl
filter-same test other (x ∷ xs) d h =
    ap (λ (b : Bool). cond b (x ∷ filter test xs) (filter test xs)) (h 0 (omega arith))
    ∙ ap (λ (ys : List _). cond (other x) (x ∷ ys) ys) (filter-same test other xs d (λ i lt. h (suc i) (omega arith)))

-- a test passes the same as another behind the first, and nothing up to it
pub record Continues {X : Type 0} (test next : X → Bool) (xs : List X) (d : X) (place : ℕ) : Type 0 where
  pub first : IsFirst test xs d place
  pub none : (i : ℕ) → i ≤ place → next (get_or xs i d) ≡ false
  pub same : (i : ℕ) → place < i → i < length xs → test (get_or xs i d) ≡ next (get_or xs i d)

pub filter-first : {X : Type 0} (test next : X → Bool) (xs : List X) (d : X) (place : ℕ) → Continues test next xs d place → filter test xs ≡ get_or xs place d ∷ filter next xs
filter-first test next [] d place h = absurd (let lt = h.first.within in omega (arith, lt))
filter-first test next (x ∷ xs) d zero h =
    ap (λ (b : Bool). cond b (x ∷ filter test xs) (filter test xs)) h.first.passes
    ∙ ap (λ (ys : List _). x ∷ ys) (filter-same test next xs d (λ i lt. h.same (suc i) (omega arith) (omega arith))
    ∙ ap (λ (b : Bool). cond b (x ∷ filter next xs) (filter next xs)) (sym (h.none 0 (omega arith))))
filter-first test next (x ∷ xs) d (suc place) h =
    ap (λ (b : Bool). cond b (x ∷ filter test xs) (filter test xs)) (h.first.none 0 (omega arith))
    ∙ filter-first test next xs d place (record {
      first = first-rest test x xs d place h.first;
      none = λ i le. h.none (suc i) (omega arith);
      same = λ i low high. h.same (suc i) (omega arith) (omega arith);
    })
    ∙ ap (λ (b : Bool). get_or xs place d ∷ cond b (x ∷ filter next xs) (filter next xs)) (sym (h.none 0 (omega arith)))

-- as many pass as stand between two places where all do
pub length-filter-between : {X : Type 0} (test : X → Bool) (xs : List X) (d : X) (first end : ℕ) → end ≤ length xs → ((i : ℕ) → first ≤ i → i < end → test (get_or xs i d) ≡ true) → end ≤ first + length (filter test xs)
length-filter-between test [] d first end le h = omega (arith, le)
length-filter-between test (x ∷ xs) d first zero le h = omega arith
length-filter-between test (x ∷ xs) d zero (suc end) le h =
    let rest = length-filter-between test xs d 0 end (omega arith) (λ i low high. h (suc i) (omega arith) (omega arith)) in
    let is : length (filter test (x ∷ xs)) ≡ suc (length (filter test xs)) = ap (λ (b : Bool). length (cond b (x ∷ filter test xs) (filter test xs))) (h 0 (omega arith) (omega arith)) in
    omega (arith, rest, is)
length-filter-between test (x ∷ xs) d (suc first) (suc end) le h =
    let rest = length-filter-between test xs d first end (omega arith) (λ i low high. h (suc i) (omega arith) (omega arith)) in
    let more = length-filter-more test x xs in
    omega (arith, rest, more)
  where
    length-filter-more : {X : Type 0} (test : X → Bool) (x : X) (xs : List X) → length (filter test xs) ≤ length (filter test (x ∷ xs))
    length-filter-more test x xs = go (test x)
      where
        go : (b : Bool) → length (filter test xs) ≤ length (cond b (x ∷ filter test xs) (filter test xs))
        go true = omega arith
        go false = omega arith
