-- Records that are read as lines of a file of terms.
use Rattle.std.proofs.Common.{◌≡◌, ℕ, List, Some, None, Result, Ok, Err, ap, ◌∙◌}
use Rattle.lu_grammar.specs.declared.bad.Bad.{Bad}
use Rattle.lu_grammar.specs.Bytes.{Cursor}
use Rattle.lu_grammar.specs.Reading.{◌>>=◌}
use Rattle.lu_grammar.specs.Records.{Shape, whole, followed, Condition, first_broken, rule_of, read_shape, record_at}
use Rattle.lu_grammar.proofs.Loops.{read_shape-followed}
use Rattle.lu_grammar.proofs.Records.{record_at-read, record_at-breaks, record_at-unread}

-- a shape whose record is a line
abbrev pub line_of : {A L : Type 0} → Shape A → (A → L) → Shape L
line_of shape f = followed shape (λ x. whole (f x))

line-read : {A L : Type 0} (shape : Shape A) (f : A → L) (c : Cursor) (x : A) (d : Cursor) → read_shape shape c ≡ Ok (x, d) → read_shape (line_of shape f) c ≡ Ok (f x, d)
line-read {A} {L} shape f c x d e = read_shape-followed shape (λ y. whole (f y)) c ∙ ap (λ (r : Result (A × Cursor) Bad). r >>= λ y. read_shape (whole (f y.0)) y.1) e

line-unread : {A L : Type 0} (shape : Shape A) (f : A → L) (c : Cursor) (bad : Bad) → read_shape shape c ≡ Err bad → read_shape (line_of shape f) c ≡ Err bad
line-unread {A} {L} shape f c bad e = read_shape-followed shape (λ y. whole (f y)) c ∙ ap (λ (r : Result (A × Cursor) Bad). r >>= λ y. read_shape (whole (f y.0)) y.1) e

-- a line that was read and is good, that breaks a condition, or that has a part without a spelling
pub line_at-good : {A L : Type 0} (shape : Shape A) (f : A → L) (conditions : L → List Condition) (c : Cursor) (x : A) (d : Cursor) → read_shape shape c ≡ Ok (x, d) → first_broken (conditions (f x)) ≡ None
    → record_at (line_of shape f) conditions c ≡ Ok (f x, d)
line_at-good shape f conditions c x d e good = record_at-read (line_of shape f) conditions c (f x) d (line-read shape f c x d e) good

pub line_at-broken : {A L : Type 0} (shape : Shape A) (f : A → L) (conditions : L → List Condition) (c : Cursor) (x : A) (d : Cursor) (rule : ℕ) → read_shape shape c ≡ Ok (x, d) → first_broken (conditions (f x)) ≡ Some rule
    → record_at (line_of shape f) conditions c ≡ Err rule
line_at-broken shape f conditions c x d rule e broken = record_at-breaks (line_of shape f) conditions c (f x) d rule (line-read shape f c x d e) broken

pub line_at-unread : {A L : Type 0} (shape : Shape A) (f : A → L) (conditions : L → List Condition) (c : Cursor) (bad : Bad) → read_shape shape c ≡ Err bad → record_at (line_of shape f) conditions c ≡ Err (rule_of bad)
line_at-unread shape f conditions c bad e = record_at-unread (line_of shape f) conditions c bad (line-unread shape f c bad e)
