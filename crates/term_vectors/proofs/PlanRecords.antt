-- The records of a plan that was read whole, and how they part.
use Rattle.std.proofs.Common.{◌≡◌, ℕ, ◌+◌, List, [], ◌∷◌, ◌++◌, length, None, refl, sym, ap, subst, ◌∙◌, append_assoc, arith}
use mathlib.Core.Bool.{true≢false}
use Rattle.std.proofs.lemmas.List.{length-append, append-nil}
use Rattle.lu_grammar.specs.Parts.{Part, Value, IsValue, spelling}
use Rattle.lu_grammar.specs.Records.{Shape, Condition, Spells, first_broken}
use Rattle.lu_grammar.specs.Plans.{Plan, done, due, and_then}
use Rattle.lu_grammar.specs.Meaning.{Spelled, bytes_of, AreGood, due_after}
use Rattle.lu_grammar.proofs.Codecs.{alone, ends, value_of}
use Rattle.term_vectors.specs.Format.{headed}

-- these are all records of the plan, each good, and they stand for this value
pub record AreRecordsOf {V R : Type 0} (plan : Plan V R) (place : ℕ) (ss : List (Spelled R)) (v : V) : Type 0 where
  pub good : AreGood plan place ss
  pub none : due_after plan place ss ≡ done v

pub bytes_of-append : {R : Type 0} (xs ys : List (Spelled R)) → bytes_of (xs ++ ys) ≡ bytes_of xs ++ bytes_of ys
bytes_of-append [] ys = refl
bytes_of-append (x ∷ xs) ys = ap (λ (t : List ℕ). x.front ++ t) (bytes_of-append xs ys) ∙ sym (append_assoc x.front (bytes_of xs) (bytes_of ys))

-- where nothing is due, none stands
pub records_done : {V R : Type 0} (v w : V) (place : ℕ) (ss : List (Spelled R)) → AreRecordsOf {V = V} {R = R} (done v) place ss w → (ss ≡ []) × (v ≡ w)
records_done v w place [] h = (refl, ap (value_of v) h.none)
records_done v w place (s ∷ ss) h = absurd h.good

-- where a record is due, it stands first
pub record FirstOf {V R : Type 0} (shape : Shape R) (conditions : ℕ → R → List Condition) (after : ℕ → R → Plan V R) (place : ℕ) (ss : List (Spelled R)) (v : V) : Type 0 where
  pub first : Spelled R
  pub rest : List (Spelled R)
  pub all : ss ≡ first ∷ rest
  pub spells : Spells shape first.it first.front
  pub unbroken : first_broken (conditions place first.it) ≡ None
  pub others : AreRecordsOf (after place first.it) (place + length first.front) rest v

pub records_due : {V R : Type 0} (shape : Shape R) (conditions : ℕ → R → List Condition) (after : ℕ → R → Plan V R) (place : ℕ) (ss : List (Spelled R)) (v : V) → AreRecordsOf (due shape conditions after) place ss v
    → FirstOf shape conditions after place ss v
records_due shape conditions after place [] v h = absurd (true≢false (sym (ap ends h.none)))
records_due shape conditions after place (s ∷ ss) v h = record {
  first = s;
  rest = ss;
  all = refl;
  spells = h.good.0.0;
  unbroken = h.good.0.1;
  others = record { good = h.good.1; none = h.none };
}

-- those of one plan, and then those of another
pub record ThenOf {V W R : Type 0} (plan : Plan V R) (next : V → Plan W R) (place : ℕ) (ss : List (Spelled R)) (w : W) : Type 0 where
  pub value : V
  pub first : List (Spelled R)
  pub second : List (Spelled R)
  pub all : ss ≡ first ++ second
  pub one : AreRecordsOf plan place first value
  pub two : AreRecordsOf (next value) (place + length (bytes_of first)) second w

pub records_then : {V W R : Type 0} (plan : Plan V R) (next : V → Plan W R) (place : ℕ) (ss : List (Spelled R)) (w : W) → AreRecordsOf (and_then plan next) place ss w → ThenOf plan next place ss w
records_then (done v) next place ss w h =
    let same : place ≡ place + 0 = omega arith in
    record {
      value = v;
      first = [];
      second = ss;
      all = refl;
      one = record { good = tt; none = refl };
      two = subst (λ (p : ℕ). AreRecordsOf (next v) p ss w) same h;
    }
records_then (due shape conditions after) next place [] w h = absurd (true≢false (sym (ap ends h.none)))
records_then (due shape conditions after) next place (s ∷ ss) w h =
    let there = place + length s.front in
    let rest = records_then (after place s.it) next there ss w (record { good = h.good.1; none = h.none }) in
    let long : there + length (bytes_of rest.first) ≡ place + length (s.front ++ bytes_of rest.first) = omega (arith, length-append s.front (bytes_of rest.first)) in
    record {
      value = rest.value;
      first = s ∷ rest.first;
      second = rest.second;
      all = ap (λ (t : List (Spelled _)). s ∷ t) rest.all;
      one = record { good = (h.good.0, rest.one.good); none = rest.one.none };
      two = subst (λ (p : ℕ). AreRecordsOf (next rest.value) p rest.second w) long rest.two;
    }

-- a value before those of a plan takes no record
pub records_headed : {V R : Type 0} (v : V) (plan : Plan (List V) R) (place : ℕ) (ss : List (Spelled R)) (all : List V) → AreRecordsOf (headed v plan) place ss all
    → (vs : List V) × AreRecordsOf plan place ss vs × (all ≡ v ∷ vs)
records_headed {V} {R} v plan place ss all h =
    let parts = records_then plan (λ vs. done (v ∷ vs)) place ss all h in
    let last = records_done {V = List V} {R = R} (v ∷ parts.value) all (place + length (bytes_of parts.first)) parts.second parts.two in
    let same : ss ≡ parts.first = parts.all ∙ ap (λ (t : List (Spelled R)). parts.first ++ t) last.0 ∙ append-nil parts.first in
    (parts.value, subst (λ (t : List (Spelled R)). AreRecordsOf plan place t parts.value) (sym same) parts.one, sym last.1)

-- a record of one part is the spelling of its value
pub record OfOne {R : Type 0} (p : Part) (f : Value p → R) (r : R) (front : List ℕ) : Type 0 where
  pub value : Value p
  pub fits : IsValue p value
  pub front_is : front ≡ spelling p value
  pub is : f value ≡ r

pub of_one : {R : Type 0} (p : Part) (f : Value p → R) (r : R) (front : List ℕ) → Spells (alone p f) r front → OfOne p f r front
of_one p f r front (v, back, fits, front_is, (is, none)) =
    record { value = v; fits = fits; front_is = front_is ∙ ap (λ (t : List ℕ). spelling p v ++ t) none ∙ append-nil (spelling p v); is = is }
