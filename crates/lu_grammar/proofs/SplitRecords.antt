-- The records of one plan and then another.
use Rattle.std.proofs.Common.{◌≡◌, ℕ, ◌+◌, Bool, true, false, List, [], ◌∷◌, ◌++◌, length, refl, sym, ap, subst, ◌∙◌, append_assoc, arith}
use mathlib.Core.Bool.{true≢false}
use Rattle.std.proofs.lemmas.List.{length-append}
use Rattle.lu_grammar.specs.Plans.{Plan, done, due, and_then}
use Rattle.lu_grammar.specs.Meaning.{Spelled, bytes_of, AreGood, due_after}

-- whether nothing more is due, and what the records stand for then
abbrev pub ends : {V R : Type 0} → Plan V R → Bool
ends (done v) = true
ends (due shape conditions after) = false

abbrev pub value_of : {V R : Type 0} → V → Plan V R → V
value_of other (done v) = v
value_of other (due shape conditions after) = other

-- what was read by the first, and then by the second
pub record SplitRecords {V W R : Type 0} (plan : Plan V R) (next : V → Plan W R) (place : ℕ) (ss : List (Spelled R)) (w : W) : Type 0 where
  pub value : V
  pub first : List (Spelled R)
  pub second : List (Spelled R)
  pub all : bytes_of ss ≡ bytes_of first ++ bytes_of second
  pub good : AreGood plan place first
  pub none : due_after plan place first ≡ done value
  pub others_good : AreGood (next value) (place + length (bytes_of first)) second
  pub others_none : due_after (next value) (place + length (bytes_of first)) second ≡ done w

pub split_records : {V W R : Type 0} (plan : Plan V R) (next : V → Plan W R) (place : ℕ) (ss : List (Spelled R)) (w : W) → AreGood (and_then plan next) place ss → due_after (and_then plan next) place ss ≡ done w → SplitRecords plan next place ss w
split_records (done v) next place ss w good none =
    let same : place ≡ place + 0 = omega arith in
    record {
      value = v;
      first = [];
      second = ss;
      all = refl;
      good = tt;
      none = refl;
      others_good = subst (λ (p : ℕ). AreGood (next v) p ss) same good;
      others_none = subst (λ (p : ℕ). due_after (next v) p ss ≡ done w) same none;
    }
split_records (due shape conditions after) next place [] w good none = absurd (true≢false (sym (ap ends none)))
split_records (due shape conditions after) next place (s ∷ ss) w good none =
    let there = place + length s.front in
    let rest = split_records (after place s.it) next there ss w good.1 none in
    let long : there + length (bytes_of rest.first) ≡ place + length (s.front ++ bytes_of rest.first) = omega (arith, length-append s.front (bytes_of rest.first)) in
    record {
      value = rest.value;
      first = s ∷ rest.first;
      second = rest.second;
      all = ap (λ (t : List ℕ). s.front ++ t) rest.all ∙ sym (append_assoc s.front (bytes_of rest.first) (bytes_of rest.second));
      good = (good.0, rest.good);
      none = rest.none;
      others_good = subst (λ (p : ℕ). AreGood (next rest.value) p rest.second) long rest.others_good;
      others_none = subst (λ (p : ℕ). due_after (next rest.value) p rest.second ≡ done w) long rest.others_none;
    }
