-- Pieces of one shape, read one after another.
use Rattle.std.proofs.Common.{◌≡◌, ℕ, suc, ◌+◌, ◌-◌, ◌<◌, ◌≤◌, List, [], ◌∷◌, ◌++◌, Result, Ok, Err, ap, ◌∙◌, arith}
use Rattle.lu_grammar.specs.declared.bad.Bad.{Bad}
use Rattle.lu_grammar.specs.Bytes.{Cursor}
use Rattle.lu_grammar.specs.Reading.{◌>>=◌}
use Rattle.lu_grammar.specs.Records.{Shape, whole, followed, repeated, read_shape}
use Rattle.lu_grammar.proofs.Loops.{read_shape-followed, repeated-read, repeated-unread}
use Rattle.segment_infos.specs.declared.stop.Stop.{Stop}
use Rattle.segment_infos.specs.declared.stop.Stop.TheVariants as stops
use Rattle.segment_infos.specs.Answers.{GivesOr}
use Rattle.segment_infos.specs.Records.{many}

-- so many pieces after those in front
abbrev pub more : {A : Type 0} → Shape A → ℕ → List A → Shape (List A)
more shape n front = repeated shape n front (λ xs. whole xs)

-- one more is read
pub more-read : {A : Type 0} (shape : Shape A) (n i : ℕ) (front : List A) (r : Result (List A × Cursor) Bad) (c : Cursor) (x : A) (d : Cursor) → i < n → r ≡ read_shape (more shape (n - i) front) c → read_shape shape c ≡ Ok (x, d)
    → r ≡ read_shape (more shape (n - (i + 1)) (front ++ x ∷ [])) d
more-read shape n i front r c x d lt before here =
    before ∙ ap (λ (k : ℕ). read_shape (more shape k front) c) (let k : n - i ≡ suc (n - (i + 1)) = omega arith in k) ∙ repeated-read shape (n - (i + 1)) front (λ xs. whole xs) c x d here

-- one is not, and so are all
pub more-unread : {A : Type 0} (shape : Shape A) (n i : ℕ) (front : List A) (r : Result (List A × Cursor) Bad) (c : Cursor) (bad : Bad) → i < n → r ≡ read_shape (more shape (n - i) front) c → read_shape shape c ≡ Err bad
    → r ≡ Err bad
more-unread shape n i front r c bad lt before here =
    before ∙ ap (λ (k : ℕ). read_shape (more shape k front) c) (let k : n - i ≡ suc (n - (i + 1)) = omega arith in k) ∙ repeated-unread shape (n - (i + 1)) front (λ xs. whole xs) c bad here

-- and then all are read
pub more-none : {A : Type 0} (shape : Shape A) (n i : ℕ) (front : List A) (r : Result (List A × Cursor) Bad) (c : Cursor) → n ≤ i → r ≡ read_shape (more shape (n - i) front) c → r ≡ Ok (front, c)
unfolding repeated
more-none shape n i front r c le before = before ∙ ap (λ (k : ℕ). read_shape (more shape k front) c) (let k : n - i ≡ 0 = omega arith in k)

-- none yet
pub more-begin : {A : Type 0} (shape : Shape A) (n : ℕ) (c : Cursor) → read_shape (many shape n) c ≡ read_shape (more shape (n - 0) []) c
more-begin shape n c = ap (λ (k : ℕ). read_shape (more shape k []) c) (let k : n ≡ n - 0 = omega arith in k)

-- want of memory, or one that is not read
pub more-stopped : {A : Type 0} (shape : Shape A) (n i : ℕ) (front : List A) (r : Result (List A × Cursor) Bad) (c d e : Cursor) (stop : Stop Bad) → i < n → r ≡ read_shape (more shape (n - i) front) c
    → GivesOr {X = A} (λ x. x) (read_shape shape c) d (Err stop) → GivesOr {X = List A} (λ xs. xs) r e (Err stop)
more-stopped shape n i front r c d e (stops.Wrong bad) lt before here = more-unread shape n i front r c bad lt before here
more-stopped shape n i front r c d e stops.OutOfMemory lt before here = tt

-- ---- one piece, and what follows it

-- a piece that was read
pub followed-read : {A R : Type 0} (shape : Shape A) (next : A → Shape R) (c : Cursor) (x : A) (d : Cursor) → read_shape shape c ≡ Ok (x, d) → read_shape (followed shape next) c ≡ read_shape (next x) d
followed-read {A} {R} shape next c x d e = read_shape-followed shape next c ∙ ap (λ (r : Result (A × Cursor) Bad). r >>= λ y. read_shape (next y.0) y.1) e

-- one that was not
pub followed-unread : {A R : Type 0} (shape : Shape A) (next : A → Shape R) (c : Cursor) (bad : Bad) → read_shape shape c ≡ Err bad → read_shape (followed shape next) c ≡ Err bad
followed-unread {A} {R} shape next c bad e = read_shape-followed shape next c ∙ ap (λ (r : Result (A × Cursor) Bad). r >>= λ y. read_shape (next y.0) y.1) e

-- want of memory, or one that was not
pub followed-stopped : {A R : Type 0} (shape : Shape A) (next : A → Shape R) (r : Result (R × Cursor) Bad) (c d e : Cursor) (stop : Stop Bad) → r ≡ read_shape (followed shape next) c
    → GivesOr {X = A} (λ x. x) (read_shape shape c) d (Err stop) → GivesOr {X = R} (λ x. x) r e (Err stop)
followed-stopped shape next r c d e (stops.Wrong bad) before here = before ∙ followed-unread shape next c bad here
followed-stopped shape next r c d e stops.OutOfMemory before here = tt
