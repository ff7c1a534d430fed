-- Records of one part, and what it says that a record or a plan was read.
use Rattle.std.proofs.Common.{◌≡◌, ℕ, List, Option, Some, None, Result, Ok, Err, ap, refl, ◌∙◌, sym}
use Rattle.lu_grammar.specs.declared.bad.Bad.{Bad}
use Rattle.lu_grammar.specs.Bytes.{Cursor}
use Rattle.lu_grammar.specs.Parts.{Part, Value}
use Rattle.lu_grammar.specs.Reading.{◌>>=◌, read_part}
use Rattle.lu_grammar.specs.Records.{Shape, whole, part, Condition, first_broken, rule_of, read_shape, unless_broken, judged, record_at}
use Rattle.lu_grammar.specs.Plans.{Plan, due, broken_at, read_plan}
use Rattle.lu_grammar.proofs.Records.{read_shape-part, read_shape-part_err, record_at-read, record_at-breaks, record_at-unread, ok_pair, same_pair}
use Rattle.lu_grammar.proofs.Plans.{ok_of, err_is_not_ok}

-- a record of one part
abbrev pub alone : {R : Type 0} (p : Part) → (Value p → R) → Shape R
alone p f = part p (λ v. whole (f v))

pub alone_read : {R : Type 0} (p : Part) (f : Value p → R) (conditions : R → List Condition) (c d : Cursor) (v : Value p) → read_part p c ≡ Ok (v, d) → first_broken (conditions (f v)) ≡ None
    → record_at (alone p f) conditions c ≡ Ok (f v, d)
alone_read p f conditions c d v e good = record_at-read (alone p f) conditions c (f v) d (read_shape-part p (λ w. whole (f w)) c v d e) good

pub alone_breaks : {R : Type 0} (p : Part) (f : Value p → R) (conditions : R → List Condition) (c d : Cursor) (v : Value p) (rule : ℕ) → read_part p c ≡ Ok (v, d) → first_broken (conditions (f v)) ≡ Some rule
    → record_at (alone p f) conditions c ≡ Err rule
alone_breaks p f conditions c d v rule e broken = record_at-breaks (alone p f) conditions c (f v) d rule (read_shape-part p (λ w. whole (f w)) c v d e) broken

pub alone_unread : {R : Type 0} (p : Part) (f : Value p → R) (conditions : R → List Condition) (c : Cursor) (bad : Bad) (rule : ℕ) → read_part p c ≡ Err bad → rule ≡ rule_of bad
    → record_at (alone p f) conditions c ≡ Err rule
alone_unread p f conditions c bad rule e is = record_at-unread (alone p f) conditions c bad (read_shape-part_err p (λ w. whole (f w)) c bad e) ∙ ap (λ (n : ℕ). Err n) (sym is)

-- ---- what was read

-- a record that was read had the shape, and broke no condition
pub record_at-was : {R : Type 0} (shape : Shape R) (conditions : R → List Condition) (c : Cursor) (r : R) (d : Cursor) → record_at shape conditions c ≡ ok_pair r d
    → (read_shape shape c ≡ ok_pair r d) × (first_broken (conditions r) ≡ None)
unfolding record_at
record_at-was {R} shape conditions c r d e = go (read_shape shape c) refl e
  where
    judge : (x : R × Cursor) (o : Option ℕ) → first_broken (conditions x.0) ≡ o → unless_broken x o ≡ ok_pair r d → (x.0 ≡ r) × (x.1 ≡ d) × (first_broken (conditions x.0) ≡ None)
    judge x None is h = let p = same_pair x.0 r x.1 d h in (p.0, p.1, is)
    judge x (Some rule) is h = absurd (err_is_not_ok h)

    go : (s : Result (R × Cursor) Bad) → read_shape shape c ≡ s → judged conditions s ≡ ok_pair r d → (read_shape shape c ≡ ok_pair r d) × (first_broken (conditions r) ≡ None)
    go (Err bad) is h = absurd (err_is_not_ok h)
    go (Ok x) is h =
        let j = judge x (first_broken (conditions x.0)) refl h in
        (is ∙ ap (λ (y : R). ok_pair y x.1) j.0 ∙ ap (λ (y : Cursor). ok_pair r y) j.1, ap (λ (y : R). first_broken (conditions y)) (sym j.0) ∙ j.2)

-- the part that a record of one part was read from
pub alone_was : {R : Type 0} (p : Part) (f : Value p → R) (c : Cursor) (r : R) (d : Cursor) → read_shape (alone p f) c ≡ ok_pair r d → (v : Value p) × (read_part p c ≡ ok_pair v d) × (f v ≡ r)
alone_was {R} p f c r d e = go (read_part p c) refl e
  where
    go : (s : Result (Value p × Cursor) Bad) → read_part p c ≡ s → (s >>= λ x. ok_pair (f x.0) x.1) ≡ ok_pair r d → (v : Value p) × (read_part p c ≡ ok_pair v d) × (f v ≡ r)
    go (Err bad) is h = absurd (err_is_not_ok h)
    go (Ok x) is h = let q = same_pair (f x.0) r x.1 d h in (x.0, is ∙ ap (λ (y : Cursor). ok_pair x.0 y) q.1, q.0)

-- a plan that was read began with a good record
pub due_was : {V R : Type 0} (shape : Shape R) (conditions : ℕ → R → List Condition) (after : ℕ → R → Plan V R) (c : Cursor) (x : V × Cursor) → read_plan (due shape conditions after) c ≡ ok_of x
    → (y : R × Cursor) × (record_at shape (conditions c.place) c ≡ ok_of y) × (read_plan (after c.place y.0) y.1 ≡ ok_of x)
unfolding read_plan
due_was {V} {R} shape conditions after c x e = go (record_at shape (conditions c.place) c) refl e
  where
    go : (r : Result (R × Cursor) ℕ) → record_at shape (conditions c.place) c ≡ r → (broken_at c.place r >>= λ y. read_plan (after c.place y.0) y.1) ≡ ok_of x
        → (y : R × Cursor) × (record_at shape (conditions c.place) c ≡ ok_of y) × (read_plan (after c.place y.0) y.1 ≡ ok_of x)
    go (Ok y) is h = (y, is, h)
    go (Err rule) is h = absurd (err_is_not_ok h)
