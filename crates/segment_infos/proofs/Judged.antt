-- Records that were read and are judged.
use Rattle.std.proofs.Common.{◌≡◌, ℕ, Bool, true, false, List, [], ◌∷◌, ◌++◌, Option, None, Some, Ok, Err, refl, sym, ap, ◌∙◌}
use Rattle.std.specs.Option.{option_or}
use Rattle.lu_grammar.specs.declared.bad.Bad.{Bad}
use Rattle.lu_grammar.specs.Bytes.{Cursor}
use Rattle.lu_grammar.specs.Records.{Shape, whole, followed, Condition, first_broken, rule_of, read_shape, record_at}
use Rattle.lu_grammar.proofs.Records.{record_at-read, record_at-breaks, record_at-unread}
use Rattle.segment_infos.specs.declared.stop.Stop.{Stop}
use Rattle.segment_infos.specs.declared.stop.Stop.TheVariants as stops
use Rattle.segment_infos.specs.Answers.{GivesOr}
use Rattle.segment_infos.specs.Unsealed.{rule_of_stop}
use Rattle.segment_infos.proofs.Pieces.{followed-read, followed-unread}

-- ---- a shape whose value is made a record

abbrev pub wrapped : {A R : Type 0} → Shape A → (A → R) → Shape R
wrapped shape f = followed shape (λ x. whole (f x))

module _ {A R : Type 0} (shape : Shape A) (f : A → R) (conditions : R → List Condition) (c : Cursor) where
  pub wrapped-good : (x : A) (d : Cursor) → read_shape shape c ≡ Ok (x, d) → first_broken (conditions (f x)) ≡ None → record_at (wrapped shape f) conditions c ≡ Ok (f x, d)
  wrapped-good x d e good = record_at-read (wrapped shape f) conditions c (f x) d (followed-read shape (λ y. whole (f y)) c x d e) good

  pub wrapped-broken : (x : A) (d : Cursor) (rule : ℕ) → read_shape shape c ≡ Ok (x, d) → first_broken (conditions (f x)) ≡ Some rule → record_at (wrapped shape f) conditions c ≡ Err rule
  wrapped-broken x d rule e broken = record_at-breaks (wrapped shape f) conditions c (f x) d rule (followed-read shape (λ y. whole (f y)) c x d e) broken

  pub wrapped-unread : (bad : Bad) → read_shape shape c ≡ Err bad → record_at (wrapped shape f) conditions c ≡ Err (rule_of bad)
  wrapped-unread bad e = record_at-unread (wrapped shape f) conditions c bad (followed-unread shape (λ y. whole (f y)) c bad e)

  pub wrapped-stopped : (d e : Cursor) (stop : Stop Bad) → GivesOr {X = A} (λ x. x) (read_shape shape c) d (Err stop) → GivesOr {X = A} f (record_at (wrapped shape f) conditions c) e (Err (rule_of_stop stop))
  wrapped-stopped d e (stops.Wrong bad) h = wrapped-unread bad h
  wrapped-stopped d e stops.OutOfMemory h = tt

-- ---- conditions after conditions

pub first_broken-append : (a b : List Condition) → first_broken (a ++ b) ≡ option_or (first_broken a) (first_broken b)
first_broken-append [] b = refl
first_broken-append (x ∷ a) b = go x.broken (first_broken-append a b)
  where
    go : (t : Bool) → first_broken (a ++ b) ≡ option_or (first_broken a) (first_broken b) → first_broken (record { rule = x.rule; broken = t } ∷ (a ++ b)) ≡ option_or (first_broken (record { rule = x.rule; broken = t } ∷ a)) (first_broken b)
    go true e = refl
    go false e = e

option_or_assoc : {X : Type 0} (a b c : Option X) → option_or a (option_or b c) ≡ option_or (option_or a b) c
option_or_assoc None b c = refl
option_or_assoc (Some x) b c = refl

-- the first that is broken of two lists and others
pub first_broken-then : (a b : List Condition) (o : Option ℕ) → option_or o (first_broken (a ++ b)) ≡ option_or (option_or o (first_broken a)) (first_broken b)
first_broken-then a b o = ap (option_or o) (first_broken-append a b) ∙ option_or_assoc o (first_broken a) (first_broken b)

-- where none of both is broken
pub first_broken-none : (a b : List Condition) → first_broken (a ++ b) ≡ None → (first_broken a ≡ None) × (first_broken b ≡ None)
first_broken-none a b e = go (first_broken a) refl (sym (first_broken-append a b) ∙ e)
  where
    go : (o : Option ℕ) → first_broken a ≡ o → option_or o (first_broken b) ≡ None → (first_broken a ≡ None) × (first_broken b ≡ None)
    go None is h = (is, h)
    go (Some rule) is h = absurd (let bad : Some rule ≡ None = h in cc)
