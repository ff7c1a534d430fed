-- Words round the one that ends the options.
use Rattle.std.proofs.Common.{◌≡◌, ◌≢◌, ℕ, ◌+◌, ◌<◌, Bool, true, false, not, cond, ◌||◌, List, [], ◌∷◌, ◌++◌, Some, None, refl, sym, ◌∙◌, ap, arith, length, take, drop, map, filter}
use mathlib.Core.Bool.{true≢false}
use Rattle.std.specs.List.{position, position_or_len, before_first, after_first, list_any, slice_get}
use Rattle.std.proofs.lemmas.Grind.{common_steps}
use Rattle.std.proofs.lemmas.List.{take-map, drop-map, drop-drop, drop_all}
use Rattle.std.proofs.lemmas.List.Sums.{prefix_len-le-length}
use Rattle.lu_command.specs.Words.{is_option, ends_options, options_in, arguments_in}

-- the place of the first that passes, in a list of what f gives
pub position_or_len-map : {X Y : Type 0} (f : X → Y) (p : Y → Bool) (xs : List X) → position_or_len p (map f xs) ≡ position_or_len (λ x. p (f x)) xs
position_or_len-map f p [] = refl
position_or_len-map f p (x ∷ xs) = ap (λ n. cond (not (p (f x))) (1 + n) 0) (position_or_len-map f p xs)

-- whether one passes, in a list of what f gives
pub list_any-map : {X Y : Type 0} (f : X → Y) (p : Y → Bool) (xs : List X) → list_any p (map f xs) ≡ list_any (λ x. p (f x)) xs
list_any-map f p [] = refl
list_any-map f p (x ∷ xs) = ap (λ b. p (f x) || b) (list_any-map f p xs)

-- the first that passes is within the list, and is the place that `position_or_len` names
pub at_first : {X : Type 0} (p : X → Bool) (xs : List X) (n : ℕ) → position p xs ≡ Some n → (n < length xs) × (position_or_len p xs ≡ n)
at_first p xs n found = (grind (arith, common_steps), grind (arith, common_steps))

-- where none passes, all stand before
pub past_all : {X : Type 0} (p : X → Bool) (xs : List X) → position p xs ≡ None → position_or_len p xs ≡ length xs
past_all p xs none = grind (arith, common_steps, prefix_len-le-length (λ x. not (p x)) xs)

module _ {X Y : Type 0} (f : X → Y) (p : Y → Bool) (xs : List X) where
  -- what f gives of the elements before the first that passes
  before_first-map : (n : ℕ) → position_or_len (λ x. p (f x)) xs ≡ n → map f (take n xs) ≡ before_first p (map f xs)
  before_first-map n place = sym (take-map f n xs) ∙ ap (λ k. take k (map f xs)) (sym place ∙ sym (position_or_len-map f p xs))

  -- what f gives of the elements after it
  after_first-map : (n : ℕ) → position_or_len (λ x. p (f x)) xs ≡ n → map f (drop (n + 1) xs) ≡ after_first p (map f xs)
  after_first-map n place = sym (drop-map f (n + 1) xs) ∙ ap (λ k. drop (k + 1) (map f xs)) (sym place ∙ sym (position_or_len-map f p xs))

  -- the part that was cut off before the first that passes
  pub cut_before : (n : ℕ) (before : List X) → position (λ x. p (f x)) xs ≡ Some n → before ≡ take n xs → map f before ≡ before_first p (map f xs)
  cut_before n before found cut = ap (map f) cut ∙ before_first-map n (at_first _ xs n found).1

  -- the part that was cut off after it
  pub cut_after : (n : ℕ) (from after : List X) → position (λ x. p (f x)) xs ≡ Some n → from ≡ drop n xs → after ≡ drop 1 from → map f after ≡ after_first p (map f xs)
  cut_after n from after found cut next = ap (map f) (next ∙ ap (drop 1) cut ∙ drop-drop 1 n xs) ∙ after_first-map n (at_first _ xs n found).1

  -- all elements, where none passes
  pub all_before : (before : List X) → position (λ x. p (f x)) xs ≡ None → before ≡ take (length xs) xs → map f before ≡ before_first p (map f xs)
  all_before before none cut = ap (map f) cut ∙ before_first-map (length xs) (past_all _ xs none)

  -- no element, where none passes
  pub none_after : (after : List X) → position (λ x. p (f x)) xs ≡ None → after ≡ drop (length xs) xs → map f after ≡ after_first p (map f xs)
  none_after after none cut =
      let past : drop (length xs) xs ≡ drop (length xs + 1) xs = drop_all _ xs (omega arith) ∙ sym (drop_all _ xs (omega arith)) in
      ap (map f) (cut ∙ past) ∙ after_first-map (length xs) (past_all _ xs none)

-- one element more, where none after it passes
none_more : {X : Type 0} (p : X → Bool) (x : X) (xs : List X) (b : Bool) → (b || list_any p xs) ≡ false → (list_any p xs ≡ false → (filter p xs ≡ []) × (filter (λ y. not (p y)) xs ≡ xs)) → (cond b (x ∷ filter p xs) (filter p xs) ≡ []) × (cond (not b) (x ∷ filter (λ y. not (p y)) xs) (filter (λ y. not (p y)) xs) ≡ x ∷ xs)
none_more p x xs true none rest = absurd (true≢false none)
none_more p x xs false none rest = ((rest none).0, ap (λ ys. x ∷ ys) (rest none).1)

-- where none passes, a filter gives nothing, and the other filter all
pub filters_none : {X : Type 0} (p : X → Bool) (xs : List X) → list_any p xs ≡ false → (filter p xs ≡ []) × (filter (λ x. not (p x)) xs ≡ xs)
filters_none p [] none = (refl, refl)
filters_none p (x ∷ xs) none = none_more p x xs (p x) none (filters_none p xs)

-- one element more, where a filter gives nothing
empty_more : {X : Type 0} (p : X → Bool) (x : X) (xs : List X) (b : Bool) → cond b (x ∷ filter p xs) (filter p xs) ≡ [] → (filter p xs ≡ [] → list_any p xs ≡ false) → (b || list_any p xs) ≡ false
empty_more p x xs true empty rest = absurd (cc)
empty_more p x xs false empty rest = rest empty

-- where a filter gives nothing, none passes
pub none_from_empty : {X : Type 0} (p : X → Bool) (xs : List X) → filter p xs ≡ [] → list_any p xs ≡ false
none_from_empty p [] empty = refl
none_from_empty p (x ∷ xs) empty = empty_more p x xs (p x) empty (none_from_empty p xs)

module _ {X : Type 0} (f : X → List ℕ) (words : List (List ℕ)) (before : List X) (cut : map f before ≡ before_first ends_options words) where
  -- with an option among the words before the end of the options, there is one
  pub some_option : list_any (λ word. is_option (f word)) before ≡ true → options_in words ≢ []
  some_option some empty = true≢false (sym some ∙ sym (list_any-map f is_option before) ∙ none_from_empty is_option (map f before) (ap (filter is_option) cut ∙ empty))

  -- without one, the arguments are the words before and after
  pub all_arguments : (after : List X) → map f after ≡ after_first ends_options words → list_any (λ word. is_option (f word)) before ≡ false → (options_in words ≡ []) × (arguments_in words ≡ map f before ++ map f after)
  all_arguments after rest none =
      let others : List (List ℕ) → List (List ℕ) = filter (λ word. not (is_option word)) in
      let kept = filters_none is_option (map f before) (list_any-map f is_option before ∙ none) in
      (ap (filter is_option) (sym cut) ∙ kept.0, ap (λ ws. others ws ++ after_first ends_options words) (sym cut) ∙ ap (λ ws. ws ++ after_first ends_options words) kept.1 ∙ ap (λ ws. map f before ++ ws) (sym rest))

-- a list with two elements and no third is these two
pub is_pair : {X : Type 0} (xs : List X) (x y : X) → slice_get xs 0 ≡ Some x → slice_get xs 1 ≡ Some y → slice_get xs 2 ≡ None → xs ≡ x ∷ y ∷ []
is_pair [] x y first second third = absurd (cc)
is_pair (x' ∷ []) x y first second third = absurd (cc)
is_pair (x' ∷ y' ∷ []) x y first second third = cc
is_pair (x' ∷ y' ∷ z ∷ zs) x y first second third = absurd (cc)

-- a list without a second element is no two elements
pub no_second : {X : Type 0} (xs : List X) (x y : X) → slice_get xs 1 ≡ None → xs ≢ x ∷ y ∷ []
no_second xs x y none pair =
    let some : slice_get xs 1 ≡ Some y = ap (λ zs. slice_get zs 1) pair in
    absurd (cc)

-- a list with a third element is no two elements
pub has_third : {X : Type 0} (xs : List X) (x y z : X) → slice_get xs 2 ≡ Some z → xs ≢ x ∷ y ∷ []
has_third xs x y z third pair =
    let none : slice_get xs 2 ≡ None = ap (λ zs. slice_get zs 2) pair in
    absurd (cc)

-- a list with three elements and no fourth is these three
pub is_triple : {X : Type 0} (xs : List X) (x y z : X) → slice_get xs 0 ≡ Some x → slice_get xs 1 ≡ Some y → slice_get xs 2 ≡ Some z → slice_get xs 3 ≡ None → xs ≡ x ∷ y ∷ z ∷ []
is_triple [] x y z first second third fourth = absurd (cc)
is_triple (x' ∷ []) x y z first second third fourth = absurd (cc)
is_triple (x' ∷ y' ∷ []) x y z first second third fourth = absurd (cc)
is_triple (x' ∷ y' ∷ z' ∷ []) x y z first second third fourth = cc
is_triple (x' ∷ y' ∷ z' ∷ w ∷ ws) x y z first second third fourth = absurd (cc)

-- a list without an element at a place below three is no three elements
pub no_third : {X : Type 0} (xs : List X) (x y z : X) → slice_get xs 2 ≡ None → xs ≢ x ∷ y ∷ z ∷ []
no_third xs x y z none triple =
    let some : slice_get xs 2 ≡ Some z = ap (λ zs. slice_get zs 2) triple in
    absurd (cc)

pub no_second_of : {X : Type 0} (xs : List X) (x y z : X) → slice_get xs 1 ≡ None → xs ≢ x ∷ y ∷ z ∷ []
no_second_of xs x y z none triple =
    let some : slice_get xs 1 ≡ Some y = ap (λ zs. slice_get zs 1) triple in
    absurd (cc)

pub no_first_of : {X : Type 0} (xs : List X) (x y z : X) → slice_get xs 0 ≡ None → xs ≢ x ∷ y ∷ z ∷ []
no_first_of xs x y z none triple =
    let some : slice_get xs 0 ≡ Some x = ap (λ zs. slice_get zs 0) triple in
    absurd (cc)

-- a list with a fourth element is no three elements
pub has_fourth : {X : Type 0} (xs : List X) (x y z w : X) → slice_get xs 3 ≡ Some w → xs ≢ x ∷ y ∷ z ∷ []
has_fourth xs x y z w fourth triple =
    let none : slice_get xs 3 ≡ None = ap (λ zs. slice_get zs 3) triple in
    absurd (cc)

-- a list with one element and no second is this one
pub is_single : {X : Type 0} (xs : List X) (x : X) → slice_get xs 0 ≡ Some x → slice_get xs 1 ≡ None → xs ≡ x ∷ []
is_single [] x first second = absurd (cc)
is_single (x' ∷ []) x first second = cc
is_single (x' ∷ y ∷ ys) x first second = absurd (cc)

-- a list without a first element is no single one
pub no_first : {X : Type 0} (xs : List X) (x : X) → slice_get xs 0 ≡ None → xs ≢ x ∷ []
no_first xs x none single =
    let some : slice_get xs 0 ≡ Some x = ap (λ zs. slice_get zs 0) single in
    absurd (cc)

-- a list with a second element is no single one
pub has_second : {X : Type 0} (xs : List X) (x y : X) → slice_get xs 1 ≡ Some y → xs ≢ x ∷ []
has_second xs x y second single =
    let none : slice_get xs 1 ≡ None = ap (λ zs. slice_get zs 1) single in
    absurd (cc)
