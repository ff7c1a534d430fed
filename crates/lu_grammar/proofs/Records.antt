-- A record that is spelled is read, one that is read is spelled so, and one that is not breaks the rule that reading names.
use Rattle.std.proofs.Common.{◌≡◌, ℕ, suc, ◌+◌, List, [], ◌∷◌, ◌++◌, length, map, drop, Option, Some, None, Result, Ok, Err, refl, sym, ap, subst, ◌∙◌, append_assoc, arith, inl, inr}
use Rattle.std.specs.Prelude.{MatchResult}
use Rattle.std.proofs.lemmas.List.{drop_at, length-append, append-nil}
use Rattle.lu_grammar.specs.declared.bad.Bad.{Bad}
use Rattle.lu_grammar.specs.Bytes.{IsBytes, Cursor, moved}
use Rattle.lu_grammar.specs.Parts.{Part, Value, IsValue, spelling, IsWrong}
use Rattle.lu_grammar.specs.Reading.{◌>>=◌, read, read_part}
use Rattle.lu_grammar.specs.Records.{Shape, whole, part, followed, repeated, Condition, first_broken, rule_of, Spells, IsUnread, Breaks, read_shape, unless_broken, judged, record_at}
use Rattle.lu_grammar.specs.Meaning.{Spelled, bytes_of}
use Rattle.lu_grammar.proofs.Parts.{read-spelling, read-judges, wrong-read, Takes, IsBytes-drop, IsBytes-back}

-- so many bytes further, whatever follows
abbrev pub at : ℕ → List ℕ → Cursor
at place rest = record { place = place; rest = rest }

-- what was taken between two places
pub record TakesRecord {R : Type 0} (shape : Shape R) (c : Cursor) (r : R) (d : Cursor) : Type 0 where
  pub front : List ℕ
  pub spells : Spells shape r front
  pub rest : c.rest ≡ front ++ d.rest
  pub place : d.place ≡ c.place + length front
  pub fits : IsBytes d.rest

-- a spelled part is read, and the place is behind it
read_part-spelling : (p : Part) (v : Value p) (place : ℕ) (rest : List ℕ) → IsValue p v → read_part p (at place (spelling p v ++ rest)) ≡ Ok (v, at (place + length (spelling p v)) rest)
read_part-spelling p v place rest h =
    rw (read-spelling p v rest h, drop_at (spelling p v) rest (length (spelling p v)) refl) refl

pub read_shape-spelled : {R : Type 0} (shape : Shape R) (r : R) (front : List ℕ) (place : ℕ) (rest : List ℕ) → Spells shape r front
    → read_shape shape (at place (front ++ rest)) ≡ Ok (r, at (place + length front) rest)
read_shape-spelled (whole s) r front place rest h =
    ap (λ (f : List ℕ). Ok (s, at place (f ++ rest))) h.1 ∙ ap (λ (n : ℕ). Ok (s, at n rest)) (let e : place ≡ place + length front = rw h.1 (omega arith) in e) ∙ ap (λ (t : _). Ok (t, at (place + length front) rest)) h.0
read_shape-spelled {R} (part p next) r front place rest (v, back, value, is, spells) =
    let split : front ++ rest ≡ spelling p v ++ (back ++ rest) = ap (λ (f : List ℕ). f ++ rest) is ∙ append_assoc (spelling p v) back rest in
    let first : read_part p (at place (front ++ rest)) ≡ Ok (v, at (place + length (spelling p v)) (back ++ rest)) =
    ap (λ (f : List ℕ). read_part p (at place f)) split ∙ read_part-spelling p v place (back ++ rest) value in
    let long : place + length (spelling p v) + length back ≡ place + length front = omega (arith, ap length is, length-append (spelling p v) back) in
    ap (λ (x : Result (Value p × Cursor) Bad). x >>= λ y. read_shape (next y.0) y.1) first
    ∙ read_shape-spelled (next v) r back (place + length (spelling p v)) rest spells
    ∙ ap (λ (n : ℕ). Ok (r, at n rest)) long

abbrev pub ok_pair : {A B E : Type 0} → A → B → Result (A × B) E
ok_pair x y = Ok (x, y)

abbrev pub pair_of : {A B : Type 0} → A → B → A × B
pair_of x y = (x, y)

-- what two answers that are one say of their parts
pub same_pair : {A B E : Type 0} (a c : A) (b d : B) → ok_pair {E = E} a b ≡ ok_pair c d → (a ≡ c) × (b ≡ d)
same_pair {A} {B} a c b d e =
    let p : pair_of a b ≡ pair_of c d = cc in
    (ap (λ (q : A × B). q.0) p, ap (λ (q : A × B). q.1) p)

-- a part that was read, and the place behind it
part-taken : (p : Part) (c : Cursor) → IsBytes c.rest
    → MatchResult (read_part p c) (λ x. IsValue p x.0 × (c.rest ≡ spelling p x.0 ++ x.1.rest) × (x.1.place ≡ c.place + length (spelling p x.0)) × IsBytes x.1.rest) (λ bad. IsWrong p c.rest bad)
part-taken p c fits = go (read p c.rest) refl (read-judges p c.rest fits)
  where
    go : (r : Result (Value p × ℕ) Bad) → read p c.rest ≡ r → MatchResult r (λ x. Takes p c.rest x.0 x.1) (λ bad. IsWrong p c.rest bad)
        → MatchResult (r >>= λ x. ok_pair x.0 (moved x.1 c)) (λ x. IsValue p x.0 × (c.rest ≡ spelling p x.0 ++ x.1.rest) × (x.1.place ≡ c.place + length (spelling p x.0)) × IsBytes x.1.rest) (λ bad. IsWrong p c.rest bad)
    go (Ok (v, n)) e taken =
        let again : read p c.rest ≡ Ok (v, length (spelling p v)) = ap (read p) taken.front ∙ read-spelling p v (drop n c.rest) taken.value in
        let n-is : n ≡ length (spelling p v) = (same_pair v v n (length (spelling p v)) (sym e ∙ again)).1 in
        (taken.value, taken.front, ap (λ (m : ℕ). c.place + m) n-is, IsBytes-drop n c.rest fits)
    go (Err bad) e wrong = wrong

-- what a record that was read says, and what is wrong where none was
abbrev pub ShapeJudges : {R : Type 0} → Shape R → Cursor → Result (R × Cursor) Bad → Type 0
ShapeJudges shape c r = MatchResult r (λ x. TakesRecord shape c x.0 x.1) (λ bad. IsUnread shape c.rest bad)

after_part : {R : Type 0} (p : Part) (next : Value p → Shape R) (c : Cursor) (v : Value p) (d : Cursor) → IsValue p v → c.rest ≡ spelling p v ++ d.rest → d.place ≡ c.place + length (spelling p v)
    → (r : Result (R × Cursor) Bad) → ShapeJudges (next v) d r → ShapeJudges (part p next) c r
after_part p next c v d value front place (Ok x) taken = record {
  front = spelling p v ++ taken.front;
  spells = (v, taken.front, value, refl, taken.spells);
  rest = front ∙ ap (λ (t : List ℕ). spelling p v ++ t) taken.rest ∙ sym (append_assoc (spelling p v) taken.front x.1.rest);
  place = omega (arith, taken.place, place, length-append (spelling p v) taken.front);
  fits = taken.fits;
}
after_part p next c v d value front place (Err bad) unread = inr (v, d.rest, value, front, unread)

pub read_shape-judges : {R : Type 0} (shape : Shape R) (c : Cursor) → IsBytes c.rest → ShapeJudges shape c (read_shape shape c)
read_shape-judges (whole r) c fits = record { front = []; spells = (refl, refl); rest = refl; place = omega arith; fits = fits }
read_shape-judges {R} (part p next) c fits = go (λ x. read_shape-judges (next x.0) x.1) (read_part p c) (part-taken p c fits)
  where
    go : ((x : Value p × Cursor) → IsBytes x.1.rest → ShapeJudges (next x.0) x.1 (read_shape (next x.0) x.1)) → (r : Result (Value p × Cursor) Bad) → MatchResult r (λ x. IsValue p x.0 × (c.rest ≡ spelling p x.0 ++ x.1.rest) × (x.1.place ≡ c.place + length (spelling p x.0)) × IsBytes x.1.rest) (λ bad. IsWrong p c.rest bad)
        → ShapeJudges (part p next) c (r >>= λ x. read_shape (next x.0) x.1)
    go later (Ok x) taken = after_part p next c x.0 x.1 taken.0 taken.1 taken.2 (read_shape (next x.0) x.1) (later x taken.3)
    go later (Err bad) wrong = inl wrong

-- what no record begins is not read
pub read_shape-unread : {R : Type 0} (shape : Shape R) (place : ℕ) (bs : List ℕ) (bad : Bad) → IsBytes bs → IsUnread shape bs bad → read_shape shape (at place bs) ≡ Err bad
read_shape-unread (whole r) place bs bad fits h = absurd h
read_shape-unread (part p next) place bs bad fits (inl wrong) = rw (wrong-read p bs bad fits wrong) refl
read_shape-unread (part p next) place bs bad fits (inr (v, back, value, front, unread)) =
    let first : read_part p (at place bs) ≡ Ok (v, at (place + length (spelling p v)) back) = ap (λ (f : List ℕ). read_part p (at place f)) front ∙ read_part-spelling p v place back value in
    let fits_back : IsBytes back = IsBytes-back (spelling p v) bs back front fits in
    ap (λ (x : Result (Value p × Cursor) Bad). x >>= λ y. read_shape (next y.0) y.1) first
    ∙ read_shape-unread (next v) (place + length (spelling p v)) back bad fits_back unread

-- ---- good records

abbrev pub IsGoodRecord : {R : Type 0} → Shape R → (R → List Condition) → Cursor → R × Cursor → Type 0
IsGoodRecord shape conditions c x = TakesRecord shape c x.0 x.1 × (first_broken (conditions x.0) ≡ None)

judged-record : {R : Type 0} (shape : Shape R) (conditions : R → List Condition) (c : Cursor) (r : Result (R × Cursor) Bad) → ShapeJudges shape c r
    → MatchResult (judged conditions r) (λ x. IsGoodRecord shape conditions c x) (λ rule. Breaks shape conditions c.rest rule)
judged-record shape conditions c (Err bad) unread = inl (bad, unread, refl)
judged-record {R} shape conditions c (Ok x) taken = go (first_broken (conditions x.0)) refl
  where
    go : (o : Option ℕ) → first_broken (conditions x.0) ≡ o → MatchResult (unless_broken x o) (λ y. IsGoodRecord shape conditions c y) (λ rule. Breaks shape conditions c.rest rule)
    go None e = (taken, e)
    go (Some rule) e = inr (x.0, taken.front, x.1.rest, taken.spells, taken.rest, e)

pub record_at-judges : {R : Type 0} (shape : Shape R) (conditions : R → List Condition) (c : Cursor) → IsBytes c.rest
    → MatchResult (record_at shape conditions c) (λ x. IsGoodRecord shape conditions c x) (λ rule. Breaks shape conditions c.rest rule)
unfolding record_at
record_at-judges shape conditions c fits = judged-record shape conditions c (read_shape shape c) (read_shape-judges shape c fits)

-- a good record is read, whatever follows
pub record_at-good : {R : Type 0} (shape : Shape R) (conditions : R → List Condition) (r : R) (front : List ℕ) (place : ℕ) (rest : List ℕ) → Spells shape r front → first_broken (conditions r) ≡ None
    → record_at shape conditions (at place (front ++ rest)) ≡ Ok (r, at (place + length front) rest)
unfolding record_at
record_at-good shape conditions r front place rest spells good = ap (judged conditions) (read_shape-spelled shape r front place rest spells) ∙ rw good refl

-- what breaks a rule is answered by that rule
pub record_at-broken : {R : Type 0} (shape : Shape R) (conditions : R → List Condition) (place : ℕ) (bs : List ℕ) (rule : ℕ) → IsBytes bs → Breaks shape conditions bs rule
    → record_at shape conditions (at place bs) ≡ Err rule
unfolding record_at
record_at-broken shape conditions place bs rule fits (inl (bad, unread, is)) = ap (judged conditions) (read_shape-unread shape place bs bad fits unread) ∙ ap (λ (n : ℕ). Err n) (sym is)
record_at-broken shape conditions place bs rule fits (inr (r, front, back, spells, split, broken)) =
    ap (λ (f : List ℕ). judged conditions (read_shape shape (at place f))) split ∙ ap (judged conditions) (read_shape-spelled shape r front place back spells) ∙ rw broken refl

-- ---- what code that reads a record shows

-- a part that was read, and the record after it
pub read_shape-part : {R : Type 0} (p : Part) (next : Value p → Shape R) (c : Cursor) (v : Value p) (d : Cursor) → read_part p c ≡ Ok (v, d) → read_shape (part p next) c ≡ read_shape (next v) d
read_shape-part p next c v d e = ap (λ (x : Result (Value p × Cursor) Bad). x >>= λ y. read_shape (next y.0) y.1) e

-- a part that was not read
pub read_shape-part_err : {R : Type 0} (p : Part) (next : Value p → Shape R) (c : Cursor) (bad : Bad) → read_part p c ≡ Err bad → read_shape (part p next) c ≡ Err bad
read_shape-part_err p next c bad e = ap (λ (x : Result (Value p × Cursor) Bad). x >>= λ y. read_shape (next y.0) y.1) e

-- a record that was read and breaks no condition, one that breaks one, and one that was not read
pub record_at-read : {R : Type 0} (shape : Shape R) (conditions : R → List Condition) (c : Cursor) (r : R) (d : Cursor) → read_shape shape c ≡ Ok (r, d) → first_broken (conditions r) ≡ None
    → record_at shape conditions c ≡ Ok (r, d)
unfolding record_at
record_at-read shape conditions c r d e good = ap (judged conditions) e ∙ rw good refl

pub record_at-breaks : {R : Type 0} (shape : Shape R) (conditions : R → List Condition) (c : Cursor) (r : R) (d : Cursor) (rule : ℕ) → read_shape shape c ≡ Ok (r, d) → first_broken (conditions r) ≡ Some rule
    → record_at shape conditions c ≡ Err rule
unfolding record_at
record_at-breaks shape conditions c r d rule e broken = ap (judged conditions) e ∙ rw broken refl

pub record_at-unread : {R : Type 0} (shape : Shape R) (conditions : R → List Condition) (c : Cursor) (bad : Bad) → read_shape shape c ≡ Err bad → record_at shape conditions c ≡ Err (rule_of bad)
unfolding record_at
record_at-unread shape conditions c bad e = ap (judged conditions) e

-- ---- what code that writes a record shows

-- the spelling of a piece, and of what follows it
pub Spells-followed : {A R : Type 0} (shape : Shape A) (next : A → Shape R) (x : A) (r : R) (a b : List ℕ) → Spells shape x a → Spells (next x) r b → Spells (followed shape next) r (a ++ b)
Spells-followed (whole y) next x r a b f g =
    subst (λ (t : List ℕ). Spells (next y) r (t ++ b)) (sym f.1) (subst (λ (z : _). Spells (next z) r b) (sym f.0) g)
Spells-followed (part p more) next x r a b (v, back, value, is, spells) g =
    (v, back ++ b, value, ap (λ (t : List ℕ). t ++ b) is ∙ append_assoc (spelling p v) back b, Spells-followed (more v) next x r back b spells g)

-- each of the pieces is spelled in its bytes
abbrev pub AreSpelled : {A : Type 0} → Shape A → List (Spelled A) → Type 0
AreSpelled shape [] = Unit {0}
AreSpelled shape (s ∷ ss) = Spells shape s.it s.front × AreSpelled shape ss

-- the spellings of the pieces that are repeated, and of what follows them
pub Spells-repeated : {A R : Type 0} (shape : Shape A) (pieces : List (Spelled A)) (front : List A) (next : List A → Shape R) (r : R) (b : List ℕ) → AreSpelled shape pieces
    → Spells (next (front ++ map (λ s. s.it) pieces)) r b → Spells (repeated shape (length pieces) front next) r (bytes_of pieces ++ b)
unfolding repeated
Spells-repeated {A} {R} shape [] front next r b spelled g = subst (λ (xs : List A). Spells (next xs) r b) (append-nil front) g
Spells-repeated {A} {R} shape (s ∷ ss) front next r b spelled g =
    let tail = Spells-repeated shape ss (front ++ s.it ∷ []) next r b spelled.1 (subst (λ (xs : List A). Spells (next xs) r b) (sym (append_assoc front (s.it ∷ []) (map (λ t. t.it) ss))) g) in
    subst (λ (t : List ℕ). Spells (repeated shape (suc (length ss)) front next) r t) (sym (append_assoc s.front (bytes_of ss) b))
    (Spells-followed shape (λ x. repeated shape (length ss) (front ++ x ∷ []) next) s.it r s.front (bytes_of ss ++ b) spelled.0 tail)
