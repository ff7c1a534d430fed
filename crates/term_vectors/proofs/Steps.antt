-- Reading on: what is read from one place is what is read from a later one, with what stands between put before it.
use Rattle.std.proofs.Common.{◌≡◌, ℕ, List, ◌∷◌, Result, Ok, Err, refl, sym, ap, ◌∙◌}
use Rattle.lu_types.specs.declared.kind.FileKind.{FileKind}
use Rattle.lu_types.specs.declared.fault.Spot.{Spot}
use Rattle.lu_types.specs.declared.fault.CodecFault.{CodecFault}
use Rattle.lu_types.specs.declared.fault.CodecFault.TheVariants as faults
use Rattle.lu_types.specs.Judging.{IsBroken, IsBrokenSo}
use Rattle.lu_grammar.specs.Bytes.{Cursor}
use Rattle.lu_grammar.specs.Reading.{◌>>=◌}
use Rattle.lu_grammar.specs.Records.{Shape, Condition, record_at}
use Rattle.lu_grammar.specs.Plans.{Plan, done, due, and_then, Broken, read_plan}
use Rattle.lu_grammar.proofs.Codecs.{ok_pair, same_pair, then_ok, read_due, read_plan-and_then}
use Rattle.term_vectors.specs.Format.{headed}

-- all that is read is what is left to read, made more
pub record Continues {A B : Type 0} (all : Result (A × Cursor) Broken) (left : Result (B × Cursor) Broken) : Type 0 where
  pub make : B → A
  pub is : all ≡ left >>= λ x. Ok (make x.0, x.1)

same_result : {A : Type 0} (r : Result (A × Cursor) Broken) → r ≡ r >>= λ x. Ok (x.0, x.1)
same_result (Ok x) = refl
same_result (Err b) = refl

pub Continues-same : {A : Type 0} (r s : Result (A × Cursor) Broken) → r ≡ s → Continues r s
Continues-same {A} r s e = record { make = λ a. a; is = e ∙ same_result s }

pub Continues-then : {A B C : Type 0} (r : Result (A × Cursor) Broken) (s : Result (B × Cursor) Broken) (t : Result (C × Cursor) Broken) → Continues r s → Continues s t → Continues r t
Continues-then {A} {B} {C} r s t first second = record {
  make = λ c. first.make (second.make c);
  is = first.is ∙ ap (λ (x : Result (B × Cursor) Broken). x >>= λ y. Ok (first.make y.0, y.1)) second.is ∙ go t;
}
  where
    go : (x : Result (C × Cursor) Broken) → (x >>= (λ y. ok_pair (second.make y.0) y.1)) >>= (λ y. ok_pair (first.make y.0) y.1) ≡ x >>= λ y. ok_pair (first.make (second.make y.0)) y.1
    go (Ok y) = refl
    go (Err b) = refl

-- where what is left is read, all is, and where it is at fault, all is
pub Continues-ok : {A B : Type 0} (r : Result (A × Cursor) Broken) (s : Result (B × Cursor) Broken) (v : B) (d : Cursor) → (h : Continues r s) → s ≡ Ok (v, d) → r ≡ Ok (h.make v, d)
Continues-ok {A} {B} r s v d h e = h.is ∙ ap (λ (x : Result (B × Cursor) Broken). x >>= λ y. Ok (h.make y.0, y.1)) e

pub Continues-err : {A B : Type 0} (r : Result (A × Cursor) Broken) (s : Result (B × Cursor) Broken) (b : Broken) → Continues r s → s ≡ Err b → r ≡ Err b
Continues-err {A} {B} r s b h e = h.is ∙ ap (λ (x : Result (B × Cursor) Broken). x >>= λ y. Ok (h.make y.0, y.1)) e

pub Continues-broken : {A B : Type 0} (kind : FileKind) (r : Result (A × Cursor) Broken) (s : Result (B × Cursor) Broken) (spot : Spot) → Continues r s → IsBroken kind s spot → IsBroken kind r spot
Continues-broken kind r s spot h (is, e) = (is, Continues-err r s (record { offset = spot.offset; rule = spot.rule }) h e)

pub Continues-broken_so : {A B : Type 0} (kind : FileKind) (r : Result (A × Cursor) Broken) (s : Result (B × Cursor) Broken) (fault : CodecFault) → Continues r s → IsBrokenSo kind s fault → IsBrokenSo kind r fault
Continues-broken_so kind r s (faults.Spot spot) h b = Continues-broken kind r s spot h b
Continues-broken_so kind r s faults.OutOfMemory h b = tt

-- a value put before those of a plan
pub headed-left : {V R : Type 0} (v : V) (plan : Plan (List V) R) (c : Cursor) → Continues (read_plan (headed v plan) c) (read_plan plan c)
unfolding read_plan
headed-left v plan c = record { make = λ vs. v ∷ vs; is = read_plan-and_then plan (λ vs. done (v ∷ vs)) c }

-- a good record, and what is due after it
pub due-left : {V R : Type 0} (shape : Shape R) (conditions : ℕ → R → List Condition) (after : ℕ → R → Plan V R) (c : Cursor) (r : R) (d : Cursor) → record_at shape (conditions c.place) c ≡ Ok (r, d)
    → Continues (read_plan (due shape conditions after) c) (read_plan (after c.place r) d)
due-left shape conditions after c r d e = Continues-same (read_plan (due shape conditions after) c) (read_plan (after c.place r) d) (read_due shape conditions after c r d e)

-- a plan that was read, and another after it
pub then-left : {V W R : Type 0} (plan : Plan V R) (next : V → Plan W R) (c : Cursor) (v : V) (d : Cursor) → read_plan plan c ≡ Ok (v, d) → Continues (read_plan (and_then plan next) c) (read_plan (next v) d)
then-left {V} {W} {R} plan next c v d e =
    Continues-same (read_plan (and_then plan next) c) (read_plan (next v) d) (read_plan-and_then plan next c ∙ ap (λ (r : Result (V × Cursor) Broken). r >>= λ x. read_plan (next x.0) x.1) e)

pub then-broken : {V W R : Type 0} (plan : Plan V R) (next : V → Plan W R) (c : Cursor) (b : Broken) → read_plan plan c ≡ Err b → read_plan (and_then plan next) c ≡ Err b
then-broken {V} {W} {R} plan next c b e = read_plan-and_then plan next c ∙ ap (λ (r : Result (V × Cursor) Broken). r >>= λ x. read_plan (next x.0) x.1) e

pub then-broken_so : {V W R : Type 0} (kind : FileKind) (plan : Plan V R) (next : V → Plan W R) (c : Cursor) (fault : CodecFault) → IsBrokenSo kind (read_plan plan c) fault → IsBrokenSo kind (read_plan (and_then plan next) c) fault
then-broken_so kind plan next c (faults.Spot spot) (is, e) = (is, then-broken plan next c (record { offset = spot.offset; rule = spot.rule }) e)
then-broken_so kind plan next c faults.OutOfMemory b = tt

-- a value put before those of a plan that was read
pub headed-done : {V R : Type 0} (v : V) (plan : Plan (List V) R) (c : Cursor) (vs : List V) (d : Cursor) → read_plan plan c ≡ Ok (vs, d) → read_plan (headed v plan) c ≡ Ok (v ∷ vs, d)
unfolding read_plan
headed-done {V} {R} v plan c vs d e = read_plan-and_then plan (λ us. done (v ∷ us)) c ∙ ap (λ (r : Result (List V × Cursor) Broken). r >>= λ x. ok_pair (v ∷ x.0) x.1) e

-- a plan that was read before those of another
pub led-left : {V R : Type 0} (plan : Plan V R) (rest : V → Plan (List V) R) (c : Cursor) (v : V) (d : Cursor) → read_plan plan c ≡ Ok (v, d)
    → Continues (read_plan (and_then plan (λ w. headed w (rest w))) c) (read_plan (rest v) d)
led-left plan rest c v d e =
    Continues-then (read_plan (and_then plan (λ w. headed w (rest w))) c) (read_plan (headed v (rest v)) d) (read_plan (rest v) d)
    (then-left plan (λ w. headed w (rest w)) c v d e) (headed-left v (rest v) d)

-- a record before those of a plan
pub record-left : {V R : Type 0} (shape : Shape R) (conditions : ℕ → R → List Condition) (value : R → V) (rest : R → Plan (List V) R) (c : Cursor) (r : R) (d : Cursor) → record_at shape (conditions c.place) c ≡ Ok (r, d)
    → Continues (read_plan (due shape conditions (λ _ s. headed (value s) (rest s))) c) (read_plan (rest r) d)
record-left shape conditions value rest c r d e =
    Continues-then (read_plan (due shape conditions (λ _ s. headed (value s) (rest s))) c) (read_plan (headed (value r) (rest r)) d) (read_plan (rest r) d)
    (due-left shape conditions (λ _ s. headed (value s) (rest s)) c r d e) (headed-left (value r) (rest r) d)

-- what was read with a value before it
pub headed_was : {V R : Type 0} (v : V) (plan : Plan (List V) R) (c : Cursor) (all : List V) (d : Cursor) → read_plan (headed v plan) c ≡ Ok (all, d) → (vs : List V) × (read_plan plan c ≡ Ok (vs, d)) × (all ≡ v ∷ vs)
unfolding read_plan
headed_was {V} {R} v plan c all d e =
    let first = then_ok (read_plan plan c) (λ x. ok_pair (v ∷ x.0) x.1) (all, d) (sym (read_plan-and_then plan (λ vs. done (v ∷ vs)) c) ∙ e) in
    let same = same_pair (v ∷ first.0.0) all first.0.1 d first.2 in
    (first.0.0, first.1 ∙ ap (λ (x : Cursor). ok_pair first.0.0 x) same.1, sym same.0)
