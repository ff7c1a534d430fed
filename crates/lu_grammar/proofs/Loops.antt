-- Reading in turns: plans after plans, records after records, and what a loop that reads them keeps.
use Rattle.std.proofs.Common.{◌≡◌, ℕ, zero, suc, ◌+◌, ◌-◌, ◌<◌, ◌≤◌, List, [], ◌∷◌, ◌++◌, Result, Ok, Err, refl, sym, ap, subst, ◌∙◌, arith}
use Rattle.lu_grammar.specs.declared.bad.Bad.{Bad}
use Rattle.lu_grammar.specs.Bytes.{Cursor}
use Rattle.lu_grammar.specs.Parts.{Value}
use Rattle.lu_grammar.specs.Reading.{◌>>=◌, read_part}
use Rattle.lu_grammar.specs.Records.{Shape, whole, part, followed, repeated, read_shape, record_at}
use Rattle.lu_grammar.specs.Plans.{Plan, done, due, and_then, Kind, one, times, each, gather, in_turn, Broken, broken_at, read_plan}
use Rattle.lu_grammar.proofs.Records.{ok_pair, same_pair}
use Rattle.lu_grammar.proofs.Plans.{ok_of, err_is_not_ok, read_due, read_due_broken}

-- ---- steps

-- two steps and then a third are one step and then two
pub then_assoc : {A B C E : Type 0} (r : Result A E) (f : A → Result B E) (g : B → Result C E) → (r >>= f) >>= g ≡ r >>= (λ x. f x >>= g)
then_assoc (Ok x) f g = refl
then_assoc (Err e) f g = refl

-- what a step that did not fail was
pub then_ok : {A B E : Type 0} (r : Result A E) (f : A → Result B E) (y : B) → (r >>= f) ≡ ok_of y → (x : A) × (r ≡ Ok x) × (f x ≡ ok_of y)
then_ok (Ok x) f y e = (x, refl, e)
then_ok (Err d) f y e = absurd (err_is_not_ok e)

-- ---- shapes

pub read_shape-followed : {A R : Type 0} (shape : Shape A) (next : A → Shape R) (c : Cursor) → read_shape (followed shape next) c ≡ read_shape shape c >>= λ x. read_shape (next x.0) x.1
read_shape-followed (whole x) next c = refl
read_shape-followed {A} {R} (part p more) next c = go (read_part p c) (λ x. read_shape-followed (more x.0) next x.1)
  where
    go : (r : Result (Value p × Cursor) Bad) → ((x : Value p × Cursor) → read_shape (followed (more x.0) next) x.1 ≡ read_shape (more x.0) x.1 >>= λ y. read_shape (next y.0) y.1)
        → (r >>= λ x. read_shape (followed (more x.0) next) x.1) ≡ (r >>= λ x. read_shape (more x.0) x.1) >>= λ y. read_shape (next y.0) y.1
    go (Ok x) h = h x
    go (Err bad) h = refl

-- a piece that was read, or not, among those that are repeated
pub repeated-read : {A R : Type 0} (shape : Shape A) (n : ℕ) (front : List A) (next : List A → Shape R) (c : Cursor) (x : A) (d : Cursor) → read_shape shape c ≡ Ok (x, d)
    → read_shape (repeated shape (suc n) front next) c ≡ read_shape (repeated shape n (front ++ x ∷ []) next) d
unfolding repeated
repeated-read {A} {R} shape n front next c x d e =
    read_shape-followed shape (λ y. repeated shape n (front ++ y ∷ []) next) c ∙ ap (λ (r : Result (A × Cursor) Bad). r >>= λ y. read_shape (repeated shape n (front ++ y.0 ∷ []) next) y.1) e

pub repeated-unread : {A R : Type 0} (shape : Shape A) (n : ℕ) (front : List A) (next : List A → Shape R) (c : Cursor) (bad : Bad) → read_shape shape c ≡ Err bad
    → read_shape (repeated shape (suc n) front next) c ≡ Err bad
unfolding repeated
repeated-unread {A} {R} shape n front next c bad e =
    read_shape-followed shape (λ y. repeated shape n (front ++ y ∷ []) next) c ∙ ap (λ (r : Result (A × Cursor) Bad). r >>= λ y. read_shape (repeated shape n (front ++ y.0 ∷ []) next) y.1) e

-- ---- one plan and then another

pub read_plan-and_then : {V W R : Type 0} (plan : Plan V R) (next : V → Plan W R) (c : Cursor) → read_plan (and_then plan next) c ≡ read_plan plan c >>= λ x. read_plan (next x.0) x.1
unfolding read_plan
read_plan-and_then (done v) next c = refl
read_plan-and_then {V} {W} {R} (due shape conditions after) next c = go (record_at shape (conditions c.place) c) (λ x. read_plan-and_then (after c.place x.0) next x.1)
  where
    go : (r : Result (R × Cursor) ℕ) → ((x : R × Cursor) → read_plan (and_then (after c.place x.0) next) x.1 ≡ read_plan (after c.place x.0) x.1 >>= λ y. read_plan (next y.0) y.1)
        → (broken_at c.place r >>= λ x. read_plan (and_then (after c.place x.0) next) x.1) ≡ (broken_at c.place r >>= λ x. read_plan (after c.place x.0) x.1) >>= λ y. read_plan (next y.0) y.1
    go (Ok x) h = h x
    go (Err rule) h = refl

-- ---- so many times a plan

-- first some, and then the others
pub read_plan-each : {S R : Type 0} (plan : S → Plan S R) (m n : ℕ) (s : S) (c : Cursor) → read_plan (each plan (m + n) s) c ≡ read_plan (each plan m s) c >>= λ x. read_plan (each plan n x.0) x.1
unfolding each read_plan
read_plan-each plan zero n s c = ap (λ (k : ℕ). read_plan (each plan k s) c) (omega arith)
read_plan-each {S} {R} plan (suc m) n s c =
    ap (λ (k : ℕ). read_plan (each plan k s) c) (let e : suc m + n ≡ suc (m + n) = omega arith in e)
    ∙ read_plan-and_then (plan s) (each plan (m + n)) c
    ∙ go (read_plan (plan s) c) (λ x. read_plan-each plan m n x.0 x.1)
    ∙ ap (λ (r : Result (S × Cursor) Broken). r >>= λ x. read_plan (each plan n x.0) x.1) (sym (read_plan-and_then (plan s) (each plan m) c))
  where
    go : (r : Result (S × Cursor) Broken) → ((x : S × Cursor) → read_plan (each plan (m + n) x.0) x.1 ≡ read_plan (each plan m x.0) x.1 >>= λ y. read_plan (each plan n y.0) y.1)
        → (r >>= λ x. read_plan (each plan (m + n) x.0) x.1) ≡ (r >>= λ x. read_plan (each plan m x.0) x.1) >>= λ y. read_plan (each plan n y.0) y.1
    go (Ok x) h = h x
    go (Err b) h = refl

-- what the first so many stood for is what the others start from
pub each-rest : {S R : Type 0} (plan : S → Plan S R) (i n : ℕ) (s : S) (c : Cursor) (m : S) (d : Cursor) → i ≤ n → read_plan (each plan i s) c ≡ Ok (m, d) → read_plan (each plan n s) c ≡ read_plan (each plan (n - i) m) d
each-rest {S} {R} plan i n s c m d le e =
    ap (λ (k : ℕ). read_plan (each plan k s) c) (let k : n ≡ i + (n - i) = omega arith in k)
    ∙ read_plan-each plan i (n - i) s c ∙ ap (λ (r : Result (S × Cursor) Broken). r >>= λ x. read_plan (each plan (n - i) x.0) x.1) e

each-one : {S R : Type 0} (plan : S → Plan S R) (s : S) (c : Cursor) → read_plan (each plan 1 s) c ≡ read_plan (plan s) c
unfolding each read_plan
each-one {S} {R} plan s c = read_plan-and_then (plan s) (λ x. done x) c ∙ go (read_plan (plan s) c)
  where
    go : (r : Result (S × Cursor) Broken) → (r >>= λ x. Ok (x.0, x.1)) ≡ r
    go (Ok x) = refl
    go (Err b) = refl

pub each-none : {S R : Type 0} (plan : S → Plan S R) (s : S) (c : Cursor) → read_plan (each plan 0 s) c ≡ Ok (s, c)
unfolding each read_plan
each-none plan s c = refl

-- one more is read
pub each-more : {S R : Type 0} (plan : S → Plan S R) (i : ℕ) (s : S) (c : Cursor) (m : S) (d : Cursor) (w : S) (e : Cursor) → read_plan (each plan i s) c ≡ Ok (m, d) → read_plan (plan m) d ≡ Ok (w, e)
    → read_plan (each plan (i + 1) s) c ≡ Ok (w, e)
each-more {S} {R} plan i s c m d w e before here =
    read_plan-each plan i 1 s c ∙ ap (λ (r : Result (S × Cursor) Broken). r >>= λ x. read_plan (each plan 1 x.0) x.1) before ∙ each-one plan m d ∙ here

-- the next one is at fault, and so are all
pub each-fault : {S R : Type 0} (plan : S → Plan S R) (i n : ℕ) (s : S) (c : Cursor) (m : S) (d : Cursor) (b : Broken) → i < n → read_plan (each plan i s) c ≡ Ok (m, d) → read_plan (plan m) d ≡ Err b
    → read_plan (each plan n s) c ≡ Err b
each-fault {S} {R} plan i n s c m d b lt before here =
    each-rest plan i n s c m d (omega arith) before
    ∙ ap (λ (k : ℕ). read_plan (each plan k m) d) (let k : n - i ≡ 1 + (n - i - 1) = omega arith in k)
    ∙ read_plan-each plan 1 (n - i - 1) m d
    ∙ ap (λ (r : Result (S × Cursor) Broken). r >>= λ x. read_plan (each plan (n - i - 1) x.0) x.1) (each-one plan m d ∙ here)

-- where all are read the next one is, whenever the first so many are walked again
pub each-again : {S R : Type 0} (plan : S → Plan S R) (i n : ℕ) (s : S) (c : Cursor) (m : S) (d : Cursor) (z : S × Cursor) → i < n → read_plan (each plan n s) c ≡ ok_of z → read_plan (each plan i s) c ≡ Ok (m, d)
    → (x : S × Cursor) × (read_plan (plan m) d ≡ ok_of x) × (read_plan (each plan (n - (i + 1)) x.0) x.1 ≡ ok_of z)
each-again {S} {R} plan i n s c m d z lt all before =
    let rest : read_plan (each plan 1 m) d >>= (λ x. read_plan (each plan (n - (i + 1)) x.0) x.1) ≡ ok_of z =
    sym (read_plan-each plan 1 (n - (i + 1)) m d) ∙ ap (λ (k : ℕ). read_plan (each plan k m) d) (let k : 1 + (n - (i + 1)) ≡ n - i = omega arith in k) ∙ sym (each-rest plan i n s c m d (omega arith) before) ∙ all in
    let first = then_ok (read_plan (each plan 1 m) d) (λ x. read_plan (each plan (n - (i + 1)) x.0) x.1) z rest in
    (first.0, sym (each-one plan m d) ∙ first.1, first.2)

-- where all are read the first so many are
pub each-front : {S R : Type 0} (plan : S → Plan S R) (i n : ℕ) (s : S) (c : Cursor) (z : S × Cursor) → i ≤ n → read_plan (each plan n s) c ≡ ok_of z
    → (x : S × Cursor) × (read_plan (each plan i s) c ≡ ok_of x) × (read_plan (each plan (n - i) x.0) x.1 ≡ ok_of z)
each-front {S} {R} plan i n s c z le all =
    then_ok (read_plan (each plan i s) c) (λ x. read_plan (each plan (n - i) x.0) x.1) z
    (sym (read_plan-each plan i (n - i) s c) ∙ ap (λ (k : ℕ). read_plan (each plan k s) c) (let k : i + (n - i) ≡ n = omega arith in k) ∙ all)

-- what each turn keeps holds in the end
pub each-keeps : {S R : Type 0} (plan : S → Plan S R) (P : S → Type 0) → ((s : S) (c : Cursor) (m : S) (d : Cursor) → P s → read_plan (plan s) c ≡ Ok (m, d) → P m) → (n : ℕ) (s : S) (c : Cursor) (m : S) (d : Cursor) → P s
    → read_plan (each plan n s) c ≡ Ok (m, d) → P m
unfolding each read_plan
each-keeps {S} plan P step zero s c m d here e = subst P (ap (λ (r : Result (S × Cursor) Broken). state_of s r) e) here
  where
    state_of : S → Result (S × Cursor) Broken → S
    state_of s (Ok x) = x.0
    state_of s (Err b) = s
each-keeps {S} plan P step (suc n) s c m d here e =
    let first = then_ok (read_plan (plan s) c) (λ x. read_plan (each plan n x.0) x.1) (m, d) (sym (read_plan-and_then (plan s) (each plan n) c) ∙ e) in
    each-keeps plan P step n first.0.0 first.0.1 m d (step s c first.0.0 first.0.1 here first.1) first.2

-- ---- so many records of one kind

-- a good record is one turn
pub one-read : {S R : Type 0} (kind : Kind S R) (s : S) (c : Cursor) (r : R) (d : Cursor) → record_at (kind.shape s) (kind.conditions s c.place) c ≡ Ok (r, d) → read_plan (one kind s) c ≡ Ok (kind.after s c.place r, d)
unfolding read_plan
one-read kind s c r d e = read_due (kind.shape s) (kind.conditions s) (λ place r. done (kind.after s place r)) c r d e

-- a record that breaks a rule is a fault where it starts
pub one-broken : {S R : Type 0} (kind : Kind S R) (s : S) (c : Cursor) (rule : ℕ) → record_at (kind.shape s) (kind.conditions s c.place) c ≡ Err rule → read_plan (one kind s) c ≡ Err (record { offset = c.place; rule = rule })
one-broken kind s c rule e = read_due_broken (kind.shape s) (kind.conditions s) (λ place r. done (kind.after s place r)) c rule e

-- a turn that was read was a good record
pub one-was : {S R : Type 0} (kind : Kind S R) (s : S) (c : Cursor) (x : S × Cursor) → read_plan (one kind s) c ≡ ok_of x → (r : R) × (record_at (kind.shape s) (kind.conditions s c.place) c ≡ Ok (r, x.1)) × (kind.after s c.place r ≡ x.0)
unfolding read_plan
one-was {S} {R} kind s c x e = go (record_at (kind.shape s) (kind.conditions s c.place) c) e
  where
    go : (r : Result (R × Cursor) ℕ) → (broken_at c.place r >>= λ y. ok_of (kind.after s c.place y.0, y.1)) ≡ ok_of x → (v : R) × (r ≡ Ok (v, x.1)) × (kind.after s c.place v ≡ x.0)
    go (Ok y) h = let p = same_pair (kind.after s c.place y.0) x.0 y.1 x.1 h in (y.0, ap (λ (d : Cursor). ok_pair y.0 d) p.1, p.0)
    go (Err rule) h = absurd (err_is_not_ok h)

-- one record more, a fault at the next one, and a record that is read again: what a loop over records and a second walk need
pub times-more : {S R : Type 0} (kind : Kind S R) (i : ℕ) (s : S) (c : Cursor) (m : S) (d : Cursor) (r : R) (e : Cursor) → read_plan (times kind i s) c ≡ Ok (m, d) → record_at (kind.shape m) (kind.conditions m d.place) d ≡ Ok (r, e)
    → read_plan (times kind (i + 1) s) c ≡ Ok (kind.after m d.place r, e)
times-more kind i s c m d r e before here = each-more (one kind) i s c m d (kind.after m d.place r) e before (one-read kind m d r e here)

pub times-fault : {S R : Type 0} (kind : Kind S R) (i n : ℕ) (s : S) (c : Cursor) (m : S) (d : Cursor) (rule : ℕ) → i < n → read_plan (times kind i s) c ≡ Ok (m, d) → record_at (kind.shape m) (kind.conditions m d.place) d ≡ Err rule
    → read_plan (times kind n s) c ≡ Err (record { offset = d.place; rule = rule })
times-fault kind i n s c m d rule lt before here = each-fault (one kind) i n s c m d (record { offset = d.place; rule = rule }) lt before (one-broken kind m d rule here)

pub times-again : {S R : Type 0} (kind : Kind S R) (i n : ℕ) (s : S) (c : Cursor) (m : S) (d : Cursor) (z : S × Cursor) → i < n → read_plan (times kind n s) c ≡ ok_of z → read_plan (times kind i s) c ≡ Ok (m, d)
    → (r : R) × (e : Cursor) × (record_at (kind.shape m) (kind.conditions m d.place) d ≡ Ok (r, e))
times-again kind i n s c m d z lt all before =
    let turn = each-again (one kind) i n s c m d z lt all before in
    let was = one-was kind m d turn.0 turn.1 in
    (was.0, turn.0.1, was.1)

-- what each good record keeps holds in the end
pub times-keeps : {S R : Type 0} (kind : Kind S R) (P : S → Type 0) → ((s : S) (c : Cursor) (r : R) (d : Cursor) → P s → record_at (kind.shape s) (kind.conditions s c.place) c ≡ Ok (r, d) → P (kind.after s c.place r))
    → (n : ℕ) (s : S) (c : Cursor) (m : S) (d : Cursor) → P s → read_plan (times kind n s) c ≡ Ok (m, d) → P m
times-keeps {S} {R} kind P step n s c m d here e =
    each-keeps (one kind) P (λ s c m d p h. let was = one-was kind s c (m, d) h in subst P was.2 (step s c was.0 d p was.1)) n s c m d here e

-- ---- plans in turn

-- first some, and then the others
pub read_plan-gather : {C V R : Type 0} (plan : C → Plan V R) (front : List V) (cs ds : List C) (c : Cursor) → read_plan (gather plan front (cs ++ ds)) c ≡ read_plan (gather plan front cs) c >>= λ x. read_plan (gather plan x.0 ds) x.1
unfolding read_plan
read_plan-gather plan front [] ds c = refl
read_plan-gather {C} {V} {R} plan front (x ∷ cs) ds c =
    read_plan-and_then (plan x) (λ v. gather plan (front ++ v ∷ []) (cs ++ ds)) c
    ∙ go (read_plan (plan x) c) (λ y. read_plan-gather plan (front ++ y.0 ∷ []) cs ds y.1)
    ∙ ap (λ (r : Result (List V × Cursor) Broken). r >>= λ y. read_plan (gather plan y.0 ds) y.1) (sym (read_plan-and_then (plan x) (λ v. gather plan (front ++ v ∷ []) cs) c))
  where
    go : (r : Result (V × Cursor) Broken) → ((y : V × Cursor) → read_plan (gather plan (front ++ y.0 ∷ []) (cs ++ ds)) y.1 ≡ read_plan (gather plan (front ++ y.0 ∷ []) cs) y.1 >>= λ z. read_plan (gather plan z.0 ds) z.1)
        → (r >>= λ y. read_plan (gather plan (front ++ y.0 ∷ []) (cs ++ ds)) y.1) ≡ (r >>= λ y. read_plan (gather plan (front ++ y.0 ∷ []) cs) y.1) >>= λ z. read_plan (gather plan z.0 ds) z.1
    go (Ok y) h = h y
    go (Err b) h = refl

-- one thing more is read, or is at fault and so are all
pub in_turn-more : {C V R : Type 0} (plan : C → Plan V R) (cs : List C) (x : C) (c d : Cursor) (vs : List V) (v : V) (e : Cursor) → read_plan (in_turn plan cs) c ≡ Ok (vs, d) → read_plan (plan x) d ≡ Ok (v, e)
    → read_plan (in_turn plan (cs ++ x ∷ [])) c ≡ Ok (vs ++ v ∷ [], e)
unfolding read_plan
in_turn-more {C} {V} {R} plan cs x c d vs v e before here =
    read_plan-gather plan [] cs (x ∷ []) c ∙ ap (λ (r : Result (List V × Cursor) Broken). r >>= λ y. read_plan (gather plan y.0 (x ∷ [])) y.1) before
    ∙ read_plan-and_then (plan x) (λ w. gather plan (vs ++ w ∷ []) []) d ∙ ap (λ (r : Result (V × Cursor) Broken). r >>= λ y. read_plan (gather plan (vs ++ y.0 ∷ []) []) y.1) here

pub in_turn-fault : {C V R : Type 0} (plan : C → Plan V R) (cs : List C) (x : C) (ds : List C) (c d : Cursor) (vs : List V) (b : Broken) → read_plan (in_turn plan cs) c ≡ Ok (vs, d) → read_plan (plan x) d ≡ Err b
    → read_plan (in_turn plan (cs ++ x ∷ ds)) c ≡ Err b
in_turn-fault {C} {V} {R} plan cs x ds c d vs b before here =
    read_plan-gather plan [] cs (x ∷ ds) c ∙ ap (λ (r : Result (List V × Cursor) Broken). r >>= λ y. read_plan (gather plan y.0 (x ∷ ds)) y.1) before
    ∙ read_plan-and_then (plan x) (λ w. gather plan (vs ++ w ∷ []) ds) d ∙ ap (λ (r : Result (V × Cursor) Broken). r >>= λ y. read_plan (gather plan (vs ++ y.0 ∷ []) ds) y.1) here
