-- The format number at the head of each file, and records of two parts.
use Rattle.std.proofs.Common.{◌≡◌, ℕ, Bool, true, false, not, List, Option, Some, None, Result, Ok, Err, refl, sym, ap, ◌∙◌, ℤ}
use Rattle.std.specs.Ordering.{int_eq}
use Rattle.std.proofs.lemmas.Bool.Decides.{Decides-int_eq}
use Rattle.lu_grammar.specs.declared.bad.Bad.{Bad}
use Rattle.lu_grammar.specs.Bytes.{Cursor}
use Rattle.lu_grammar.specs.Parts.{Part, Value, int32}
use Rattle.lu_grammar.specs.Reading.{read_part}
use Rattle.lu_grammar.specs.Records.{Shape, whole, part, Condition, first_broken, rule_of, record_at}
use Rattle.lu_grammar.specs.Plans.{Plan, due, read_plan}
use Rattle.lu_grammar.proofs.Codecs.{read_shape-part, read_shape-part_err, record_at-read, record_at-breaks, record_at-unread, alone_read, alone_breaks, alone_unread, record_at-was, alone_was, err_is_not_ok, err_of, read_due, read_due_broken}
use Rattle.term_vectors.specs.Format.{vector_format, format_shape, is_other_format, format_rule}

-- ---- the format number

pub same_format : (z : ℤ) → is_other_format z ≡ false → z ≡ vector_format
same_format z h = go (int_eq z vector_format) refl h
  where
    go : (b : Bool) → int_eq z vector_format ≡ b → not b ≡ false → z ≡ vector_format
    go true is h = (Decides-int_eq z vector_format).0 is
    go false is h = cc

pub format_given : (rule : ℕ) (c d : Cursor) (z w : ℤ) → w ≡ z → read_part int32 c ≡ Ok (z, d) → is_other_format w ≡ false → record_at (format_shape (λ x. x)) (format_rule rule) c ≡ Ok (vector_format, d)
format_given rule c d z w is e good =
    let here : is_other_format z ≡ false = ap is_other_format (sym is) ∙ good in
    alone_read int32 (λ x. x) (format_rule rule) c d z e (rw here refl) ∙ ap (λ (x : ℤ). Ok (x, d)) (same_format z here)

pub format_broken : (rule : ℕ) (c d : Cursor) (z w : ℤ) → w ≡ z → read_part int32 c ≡ Ok (z, d) → is_other_format w ≡ true → record_at (format_shape (λ x. x)) (format_rule rule) c ≡ Err rule
format_broken rule c d z w is e bad =
    let here : is_other_format z ≡ true = ap is_other_format (sym is) ∙ bad in
    alone_breaks int32 (λ x. x) (format_rule rule) c d z rule e (rw here refl)

-- the header of a file was passed, or is at fault
pub header-left : {V R : Type 0} (format : ℤ → R) (conditions : R → List Condition) (rule : ℕ) → ((z : ℤ) → conditions (format z) ≡ format_rule rule z) → (rest : Plan V R) (c d : Cursor) (z : ℤ)
    → record_at (format_shape (λ x. x)) (format_rule rule) c ≡ Ok (z, d) → read_plan (due (format_shape format) (λ _ r. conditions r) (λ _ _. rest)) c ≡ read_plan rest d
header-left format conditions rule same rest c d z e =
    let was = record_at-was (format_shape (λ x. x)) (format_rule rule) c z d e in
    let part = alone_was int32 (λ x. x) c z d was.0 in
    let good : first_broken (conditions (format part.0)) ≡ None = ap first_broken (same part.0) ∙ ap (λ (x : ℤ). first_broken (format_rule rule x)) part.2 ∙ was.1 in
    read_due (format_shape format) (λ _ r. conditions r) (λ _ _. rest) c (format part.0) d (alone_read int32 format conditions c d part.0 part.1 good)

-- a rule that is broken, whatever would have been read
err_again : {V W : Type 0} (m n : ℕ) → err_of {A = V} m ≡ err_of n → err_of {A = W} m ≡ err_of n
err_again m n q = let same : m ≡ n = cc in ap err_of same

header_fault : {V R : Type 0} (format : ℤ → R) (conditions : R → List Condition) (rule : ℕ) → ((z : ℤ) → conditions (format z) ≡ format_rule rule z) → (rest : Plan V R) (c : Cursor) (broken : ℕ)
    → record_at (format_shape (λ x. x)) (format_rule rule) c ≡ Err broken → record_at (format_shape format) conditions c ≡ Err broken
unfolding record_at
header_fault {V} {R} format conditions rule same rest c broken e = go (read_part int32 c) refl
  where
    go : (r : Result (ℤ × Cursor) Bad) → read_part int32 c ≡ r → record_at (format_shape format) conditions c ≡ Err broken
    go (Ok x) is = judge (first_broken (format_rule rule x.0)) refl
      where
        judge : (o : Option ℕ) → first_broken (format_rule rule x.0) ≡ o → record_at (format_shape format) conditions c ≡ Err broken
        judge None good = absurd (err_is_not_ok (sym e ∙ alone_read int32 (λ y. y) (format_rule rule) c x.1 x.0 is good))
        judge (Some other) bad =
            let same_rule : err_of {A = ℤ × Cursor} other ≡ err_of broken = sym (alone_breaks int32 (λ y. y) (format_rule rule) c x.1 x.0 other is bad) ∙ e in
            alone_breaks int32 format conditions c x.1 x.0 other is (ap first_broken (same x.0) ∙ bad) ∙ err_again {V = ℤ × Cursor} {W = R × Cursor} other broken same_rule
    go (Err bad) is =
        let same_rule : err_of {A = ℤ × Cursor} (rule_of bad) ≡ err_of broken = sym (alone_unread int32 (λ y. y) (format_rule rule) c bad (rule_of bad) is refl) ∙ e in
        alone_unread int32 format conditions c bad (rule_of bad) is refl ∙ err_again {V = ℤ × Cursor} {W = R × Cursor} (rule_of bad) broken same_rule

pub header-broken : {V R : Type 0} (format : ℤ → R) (conditions : R → List Condition) (rule : ℕ) → ((z : ℤ) → conditions (format z) ≡ format_rule rule z) → (rest : Plan V R) (c : Cursor) (broken : ℕ)
    → record_at (format_shape (λ x. x)) (format_rule rule) c ≡ Err broken → read_plan (due (format_shape format) (λ _ r. conditions r) (λ _ _. rest)) c ≡ Err (record { offset = c.place; rule = broken })
header-broken format conditions rule same rest c broken e =
    read_due_broken (format_shape format) (λ _ r. conditions r) (λ _ _. rest) c broken (header_fault format conditions rule same rest c broken e)

-- ---- records of two parts

abbrev pub two : {R : Type 0} (p q : Part) → (Value p → Value q → R) → Shape R
two p q f = part p (λ v. part q (λ w. whole (f v w)))

pub two_read : {R : Type 0} (p q : Part) (f : Value p → Value q → R) (conditions : R → List Condition) (c b d : Cursor) (v : Value p) (w : Value q) → read_part p c ≡ Ok (v, b) → read_part q b ≡ Ok (w, d)
    → first_broken (conditions (f v w)) ≡ None → record_at (two p q f) conditions c ≡ Ok (f v w, d)
two_read p q f conditions c b d v w first second good =
    record_at-read (two p q f) conditions c (f v w) d (read_shape-part p (λ x. part q (λ y. whole (f x y))) c v b first ∙ read_shape-part q (λ y. whole (f v y)) b w d second) good

pub two_breaks : {R : Type 0} (p q : Part) (f : Value p → Value q → R) (conditions : R → List Condition) (c b d : Cursor) (v : Value p) (w : Value q) (rule : ℕ) → read_part p c ≡ Ok (v, b) → read_part q b ≡ Ok (w, d)
    → first_broken (conditions (f v w)) ≡ Some rule → record_at (two p q f) conditions c ≡ Err rule
two_breaks p q f conditions c b d v w rule first second broken =
    record_at-breaks (two p q f) conditions c (f v w) d rule (read_shape-part p (λ x. part q (λ y. whole (f x y))) c v b first ∙ read_shape-part q (λ y. whole (f v y)) b w d second) broken

pub two_unread : {R : Type 0} (p q : Part) (f : Value p → Value q → R) (conditions : R → List Condition) (c : Cursor) (bad : Bad) (rule : ℕ) → read_part p c ≡ Err bad → rule ≡ rule_of bad
    → record_at (two p q f) conditions c ≡ Err rule
two_unread p q f conditions c bad rule e is =
    record_at-unread (two p q f) conditions c bad (read_shape-part_err p (λ x. part q (λ y. whole (f x y))) c bad e) ∙ ap (λ (n : ℕ). Err n) (sym is)

pub two_half : {R : Type 0} (p q : Part) (f : Value p → Value q → R) (conditions : R → List Condition) (c b : Cursor) (v : Value p) (bad : Bad) (rule : ℕ) → read_part p c ≡ Ok (v, b) → read_part q b ≡ Err bad → rule ≡ rule_of bad
    → record_at (two p q f) conditions c ≡ Err rule
two_half p q f conditions c b v bad rule first e is =
    record_at-unread (two p q f) conditions c bad (read_shape-part p (λ x. part q (λ y. whole (f x y))) c v b first ∙ read_shape-part_err q (λ y. whole (f v y)) b bad e) ∙ ap (λ (n : ℕ). Err n) (sym is)
