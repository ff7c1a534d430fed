-- Conditions: which is broken first, and what it says that none is.
use Rattle.std.proofs.Common.{◌≡◌, ℕ, Bool, true, false, not, List, [], ◌∷◌, ◌++◌, Option, Some, None, Result, Ok, Err, refl, sym, ap, ◌∙◌}
use Rattle.std.specs.Prelude.{◌==◌, if◌then◌else◌}
use Rattle.std.proofs.lemmas.Bool.{eqb-true}
use Rattle.lu_grammar.specs.declared.bad.Bad.{Bad}
use Rattle.lu_grammar.specs.Bytes.{Cursor}
use Rattle.lu_grammar.specs.Records.{Shape, Condition, read_shape, judged, unless_broken, first_broken, record_at}
use Rattle.lu_grammar.proofs.Records.{ok_pair, same_pair}
use Rattle.lu_grammar.proofs.Plans.{err_is_not_ok}

-- a good record breaks no condition
pub record_at-kept : {R : Type 0} (shape : Shape R) (conditions : R → List Condition) (c : Cursor) (r : R) (d : Cursor) → record_at shape conditions c ≡ ok_pair r d → first_broken (conditions r) ≡ None
unfolding record_at
record_at-kept {R} shape conditions c r d e = go (read_shape shape c) e
  where
    kept : (x : R × Cursor) (o : Option ℕ) → first_broken (conditions x.0) ≡ o → unless_broken x o ≡ ok_pair r d → first_broken (conditions r) ≡ None
    kept x None is h = let p = same_pair x.0 r x.1 d h in ap (λ (a : R). first_broken (conditions a)) (sym p.0) ∙ is
    kept x (Some rule) is h = absurd (err_is_not_ok h)

    go : (x : Result (R × Cursor) Bad) → judged conditions x ≡ ok_pair r d → first_broken (conditions r) ≡ None
    go (Ok x) h = kept x (first_broken (conditions x.0)) refl h
    go (Err bad) h = absurd (err_is_not_ok h)

-- none of the conditions is broken
abbrev pub AreUnbroken : List Condition → Type 0
AreUnbroken [] = Unit {0}
AreUnbroken (c ∷ cs) = (c.broken ≡ false) × AreUnbroken cs

unbroken : (b : Bool) (rule : ℕ) (rest : Option ℕ) → (if b then Some rule else rest) ≡ None → (b ≡ false) × (rest ≡ None)
unbroken true rule rest e = cc
unbroken false rule rest e = (refl, e)

pub all_unbroken : (cs : List Condition) → first_broken cs ≡ None → AreUnbroken cs
all_unbroken [] e = tt
all_unbroken (c ∷ cs) e = let u = unbroken c.broken c.rule (first_broken cs) e in (u.0, all_unbroken cs u.1)

not-not : (b : Bool) → not b ≡ false → b ≡ true
not-not true e = refl
not-not false e = cc

pub same-of : (m n : ℕ) → not (m == n) ≡ false → m ≡ n
same-of m n e = eqb-true m n (not-not (m == n) e)

-- one that is broken among the first, and none
pub first_broken-front : (xs ys : List Condition) (rule : ℕ) → first_broken xs ≡ Some rule → first_broken (xs ++ ys) ≡ Some rule
first_broken-front [] ys rule e = cc
first_broken-front (c ∷ xs) ys rule e = go c.broken e (first_broken-front xs ys rule)
  where
    go : (b : Bool) → (if b then Some c.rule else first_broken xs) ≡ Some rule → (first_broken xs ≡ Some rule → first_broken (xs ++ ys) ≡ Some rule)
        → (if b then Some c.rule else first_broken (xs ++ ys)) ≡ Some rule
    go true e later = e
    go false e later = later e

pub first_broken-after : (xs ys : List Condition) → first_broken xs ≡ None → first_broken (xs ++ ys) ≡ first_broken ys
first_broken-after [] ys e = refl
first_broken-after (c ∷ xs) ys e = go c.broken e (first_broken-after xs ys)
  where
    go : (b : Bool) → (if b then Some c.rule else first_broken xs) ≡ None → (first_broken xs ≡ None → first_broken (xs ++ ys) ≡ first_broken ys)
        → (if b then Some c.rule else first_broken (xs ++ ys)) ≡ first_broken ys
    go true e later = cc
    go false e later = later e
