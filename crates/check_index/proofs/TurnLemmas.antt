-- The plans of some things in turn: one more of them, the first fault, bytes behind the last, and the whole file.
use Rattle.std.proofs.Common.{◌≡◌, ℕ, zero, suc, ◌+◌, ◌<◌, ◌≤◌, List, [], ◌∷◌, ◌++◌, length, take, drop, Option, Some, None, Err, inl, inr, refl, sym, ap, subst, ◌∙◌, arith, below_more, drop-cons}
use Rattle.std.specs.Prelude.{slice_get, option_map}
use Rattle.std.proofs.lemmas.List.{take_more, take_all, take-append-drop, length-append}
use Rattle.std.proofs.lemmas.Option.{slice_get_within, get_or_from_slice_get}
use Rattle.lu_grammar.specs.Bytes.{IsBytes, Cursor, place_in}
use Rattle.lu_grammar.specs.Plans.{Plan, Broken, in_turn, read_plan}
use Rattle.lu_grammar.specs.Meaning.{ReadsTo, FaultFrom, FirstFault}
use Rattle.lu_grammar.specs.RuleNumbers as rules
use Rattle.lu_grammar.proofs.Files.{read_plan-FaultFrom}
use Rattle.lu_grammar.proofs.Records.{at}
use Rattle.lu_grammar.proofs.Codecs.{AreUpTo, read_plan-ReadsTo, reads-read_plan, turns-none, turns-more, turns-whole, turns-fault, turns-trailing}
use Rattle.check_index.specs.Turns.{HavePassed, AreTaken}

-- two elements of one option are one
pub one_element : {A : Type 0} (x y : A) → ◌≡◌ {A = Option A} (Some x) (Some y) → x ≡ y
one_element x y e = cc

-- what is said of an element that is there is said of some element
pub element : {A B : Type 0} (f : A → B) (o : Option A) (y : B) → option_map f o ≡ Some y → (x : A) × (o ≡ Some x) × (f x ≡ y)
element f None y e = cc
element f (Some x) y e = (x, refl, cc)

-- nothing is said where the list has ended
pub past_end : {A B : Type 0} (f : A → B) (xs : List A) (n : ℕ) → option_map f (slice_get xs n) ≡ None → length xs ≤ n
past_end f [] n e = omega arith
past_end f (x ∷ xs) zero e = cc
past_end f (x ∷ xs) (suc n) e = omega (arith, past_end f xs n e)

-- a list is its front, an element and what follows
pub split_at : {A : Type 0} (xs : List A) (n : ℕ) (x : A) → slice_get xs n ≡ Some x → (take n xs ++ x ∷ drop (suc n) xs ≡ xs) × (take (n + 1) xs ≡ take n xs ++ x ∷ [])
split_at {A} xs n x e =
    let lt = slice_get_within xs n x e in
    let is = get_or_from_slice_get xs n x x e in
    (ap (λ (ys : List A). take n xs ++ ys) (ap (λ (y : A). y ∷ drop (suc n) xs) (sym is) ∙ sym (drop-cons xs n x lt)) ∙ take-append-drop n xs, take_more xs n x lt ∙ ap (λ (y : A). take n xs ++ y ∷ []) is)

-- an element stays where it is, and a new one comes last
front_at : {A : Type 0} (xs ys : List A) (n : ℕ) (x : A) → slice_get xs n ≡ Some x → slice_get (xs ++ ys) n ≡ Some x
front_at [] ys n x e = cc
front_at (y ∷ xs) ys zero x e = e
front_at (y ∷ xs) ys (suc n) x e = front_at xs ys n x e

end_at : {A : Type 0} (xs : List A) (n : ℕ) (x : A) → length xs ≡ n → slice_get (xs ++ x ∷ []) n ≡ Some x
end_at [] zero x e = refl
end_at [] (suc n) x e = absurd (omega (arith, e))
end_at (y ∷ xs) zero x e = absurd (omega (arith, e))
end_at (y ∷ xs) (suc n) x e = end_at xs n x (omega (arith, e))

module _ {C V R : Type 0} (plan : C → Plan V R) (IsSo : C → V → Type 0) (cs : List C) (bytes : List ℕ) (fits : IsBytes bytes) where
  pub HavePassed-none : HavePassed plan IsSo cs bytes 0 0
  HavePassed-none = record { values = []; so_far = turns-none plan bytes fits; count = refl; each = λ n c lt e. absurd (omega (arith, lt)); few = omega arith; within = omega arith }

  pub HavePassed-more : (passed place end : ℕ) (c : C) (v : V) → slice_get cs passed ≡ Some c → HavePassed plan IsSo cs bytes passed place
      → ReadsTo (plan c) (place_in bytes place) v (place_in bytes end) → IsSo c v → end ≤ length bytes → HavePassed plan IsSo cs bytes (passed + 1) end
  HavePassed-more passed place end c v e before reads so within =
      let parts = split_at cs passed c e in
      let values = before.values ++ v ∷ [] in
      let P : ℕ → Type 0 = λ k. (d : C) → slice_get cs k ≡ Some d → (w : V) × (slice_get values k ≡ Some w) × IsSo d w in
      let all : (k : ℕ) → k < passed + 1 → P k = below_more P passed
      (λ k lt d also. let h = before.each k d lt also in (h.0, front_at before.values (v ∷ []) k h.0 h.1, h.2))
      (λ d also. (v, end_at before.values passed v before.count, subst (λ (x : C). IsSo x v) (one_element c d (sym e ∙ also)) so)) in
      record {
        values = values;
        so_far = subst (λ (ds : List C). AreUpTo plan ds bytes end values) (sym parts.1)
            (turns-more plan bytes fits (take passed cs) before.values c place end v before.so_far (read_plan-ReadsTo (plan c) (place_in bytes place) v (place_in bytes end) reads));
        count = simp length-append (omega (arith, before.count));
        each = λ n d lt is. all n lt d is;
        few = omega (arith, slice_get_within cs passed c e);
        within = within;
      }

  -- the first fault of the thing that is next
  pub HavePassed-fault : (passed place : ℕ) (c : C) (b : Broken) → slice_get cs passed ≡ Some c → HavePassed plan IsSo cs bytes passed place → read_plan (plan c) (place_in bytes place) ≡ Err b
      → FirstFault (in_turn plan cs) bytes b.offset b.rule
  HavePassed-fault passed place c b e before fault =
      subst (λ (ds : List C). FirstFault (in_turn plan ds) bytes b.offset b.rule) (split_at cs passed c e).0
      (turns-fault plan bytes fits (take passed cs) before.values c (drop (suc passed) cs) place b before.so_far fault)

  up_to_all : (passed place : ℕ) → length cs ≤ passed → (before : HavePassed plan IsSo cs bytes passed place) → AreUpTo plan cs bytes place before.values
  up_to_all passed place le before = subst (λ (ds : List C). AreUpTo plan ds bytes place before.values) (take_all passed cs le) before.so_far

  -- bytes behind the last thing
  pub HavePassed-trailing : (passed place : ℕ) → length cs ≤ passed → HavePassed plan IsSo cs bytes passed place → place < length bytes → FirstFault (in_turn plan cs) bytes place rules.trailing
  HavePassed-trailing passed place le before lt = turns-trailing plan bytes fits cs before.values place (up_to_all passed place le before) lt

  -- all things are passed, and no byte is left
  pub HavePassed-all : (passed place : ℕ) → length cs ≤ passed → length bytes ≤ place → (before : HavePassed plan IsSo cs bytes passed place) → AreTaken plan IsSo cs bytes before.values
  HavePassed-all passed place ended last before =
      let number : length cs ≡ passed = omega (arith, ended, before.few) in
      let end : place ≡ length bytes = omega (arith, last, before.within) in
      record {
        reads = turns-whole plan cs bytes before.values (subst (λ (n : ℕ). AreUpTo plan cs bytes n before.values) end (up_to_all passed place ended before));
        count = before.count ∙ sym number;
        each = λ n c e. before.each n c (omega (arith, slice_get_within cs n c e, number)) e;
      }

-- a fault of a plan that does not read from here is what reading answers
pub broken-read : {V R : Type 0} (plan : Plan V R) (from : Cursor) (offset rule : ℕ) → IsBytes from.rest → FaultFrom plan from offset rule → ((v : V) (end : Cursor) → ReadsTo plan from v end → ⊥) → read_plan plan from ≡ Err (record { offset = offset; rule = rule })
broken-read plan from offset rule fits fault unread = elim (read_plan-FaultFrom plan from offset rule fits fault) [
  | inl e ↦ e
  | inr (v, more, some, is, e) ↦ absurd (unread v (at offset more) (reads-read_plan plan from v (at offset more) fits e))
]
