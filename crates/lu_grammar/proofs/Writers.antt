-- What a writer has written: bytes that are read as so much of a plan, whatever follows.
use Rattle.std.proofs.Common.{◌≡◌, ℕ, ◌+◌, List, [], ◌∷◌, ◌++◌, length, None, Result, Ok, sym, ap, ◌∙◌, append_assoc, arith}
use Rattle.std.proofs.lemmas.List.{length-append, append-nil}
use Rattle.lu_grammar.specs.Bytes.{Cursor}
use Rattle.lu_grammar.specs.Reading.{◌>>=◌}
use Rattle.lu_grammar.specs.Records.{Shape, Condition, first_broken, Spells}
use Rattle.lu_grammar.specs.Plans.{Plan, done, due, and_then, Kind, one, times, each, in_turn, Broken, read_plan, ended, read_file}
use Rattle.lu_grammar.proofs.Records.{at, record_at-good}
use Rattle.lu_grammar.proofs.Plans.{ok_of, read_due}
use Rattle.lu_grammar.proofs.Loops.{read_plan-and_then, each-more, each-none, one-read, in_turn-more}

-- these bytes, from this place on and whatever follows, are all of the plan, and stand for the value
pub record Writes {V R : Type 0} (plan : Plan V R) (place : ℕ) (bytes : List ℕ) (value : V) : Type 0 where
  pub reads : (rest : List ℕ) → read_plan plan (at place (bytes ++ rest)) ≡ Ok (value, at (place + length bytes) rest)

-- a file of them is read as the value
pub read_file-Writes : {V R : Type 0} (plan : Plan V R) (bytes : List ℕ) (v : V) → Writes plan 0 bytes v → read_file plan bytes ≡ Ok v
read_file-Writes {V} {R} plan bytes v w =
    ap (λ (t : List ℕ). read_plan plan (at 0 t) >>= ended) (sym (append-nil bytes)) ∙ ap (λ (r : Result (V × Cursor) Broken). r >>= ended) (w.reads [])

-- a good record, and what is due after it
pub Writes-due : {V R : Type 0} (shape : Shape R) (conditions : ℕ → R → List Condition) (after : ℕ → R → Plan V R) (place : ℕ) (r : R) (front bytes : List ℕ) (v : V)
    → Spells shape r front → first_broken (conditions place r) ≡ None → Writes (after place r) (place + length front) bytes v → Writes (due shape conditions after) place (front ++ bytes) v
Writes-due {V} {R} shape conditions after place r front bytes v spells good w = record {
  reads = λ rest.
      ap (λ (t : List ℕ). read_plan (due shape conditions after) (at place t)) (append_assoc front bytes rest)
      ∙ read_due shape conditions after (at place (front ++ (bytes ++ rest))) r (at (place + length front) (bytes ++ rest)) (record_at-good shape (conditions place) r front place (bytes ++ rest) spells good)
      ∙ w.reads rest
      ∙ ap (λ (n : ℕ). ok_of (v, at n rest)) (omega (arith, length-append front bytes));
}

pub Writes-done : {V R : Type 0} (place : ℕ) (v : V) → Writes {R = R} (done v) place [] v
unfolding read_plan
Writes-done place v = record { reads = λ rest. ap (λ (n : ℕ). ok_of (v, at n rest)) (let e : place ≡ place + 0 = omega arith in e) }

-- one plan, and then another
pub Writes-and_then : {V W R : Type 0} (plan : Plan V R) (next : V → Plan W R) (place : ℕ) (a b : List ℕ) (v : V) (w : W) → Writes plan place a v → Writes (next v) (place + length a) b w
    → Writes (and_then plan next) place (a ++ b) w
Writes-and_then {V} {W} {R} plan next place a b v w first second = record {
  reads = λ rest.
      ap (λ (t : List ℕ). read_plan (and_then plan next) (at place t)) (append_assoc a b rest)
      ∙ read_plan-and_then plan next (at place (a ++ (b ++ rest)))
      ∙ ap (λ (r : Result (V × Cursor) Broken). r >>= λ x. read_plan (next x.0) x.1) (first.reads (b ++ rest))
      ∙ second.reads rest
      ∙ ap (λ (n : ℕ). ok_of (w, at n rest)) (omega (arith, length-append a b));
}

-- nothing yet, and one turn more
pub Writes-none : {S R : Type 0} (plan : S → Plan S R) (place : ℕ) (s : S) → Writes (each plan 0 s) place [] s
Writes-none plan place s = record { reads = λ rest. each-none plan s (at place rest) ∙ ap (λ (n : ℕ). ok_of (s, at n rest)) (let e : place ≡ place + 0 = omega arith in e) }

pub Writes-turn : {S R : Type 0} (plan : S → Plan S R) (s : S) (place n : ℕ) (bytes : List ℕ) (m : S) (front : List ℕ) (w : S) → Writes (each plan n s) place bytes m → Writes (plan m) (place + length bytes) front w
    → Writes (each plan (n + 1) s) place (bytes ++ front) w
Writes-turn {S} {R} plan s place n bytes m front w before turn = record {
  reads = λ rest.
      ap (λ (t : List ℕ). read_plan (each plan (n + 1) s) (at place t)) (append_assoc bytes front rest)
      ∙ each-more plan n s (at place (bytes ++ (front ++ rest))) m (at (place + length bytes) (front ++ rest)) w (at (place + length bytes + length front) rest) (before.reads (front ++ rest)) (turn.reads rest)
      ∙ ap (λ (k : ℕ). ok_of (w, at k rest)) (omega (arith, length-append bytes front));
}

-- one good record more
pub Writes-record : {S R : Type 0} (kind : Kind S R) (s : S) (place n : ℕ) (bytes : List ℕ) (m : S) (r : R) (front : List ℕ) → Writes (times kind n s) place bytes m → Spells (kind.shape m) r front
    → first_broken (kind.conditions m (place + length bytes) r) ≡ None → Writes (times kind (n + 1) s) place (bytes ++ front) (kind.after m (place + length bytes) r)
Writes-record {S} {R} kind s place n bytes m r front before spells good =
    let here = place + length bytes in
    Writes-turn (one kind) s place n bytes m front (kind.after m here r) before (record {
      reads = λ rest. one-read kind m (at here (front ++ rest)) r (at (here + length front) rest) (record_at-good (kind.shape m) (kind.conditions m here) r front here rest spells good);
    })

-- one thing more in turn
pub Writes-in_turn : {C V R : Type 0} (plan : C → Plan V R) (cs : List C) (x : C) (place : ℕ) (bytes front : List ℕ) (vs : List V) (v : V) → Writes (in_turn plan cs) place bytes vs → Writes (plan x) (place + length bytes) front v
    → Writes (in_turn plan (cs ++ x ∷ [])) place (bytes ++ front) (vs ++ v ∷ [])
Writes-in_turn {C} {V} {R} plan cs x place bytes front vs v before turn = record {
  reads = λ rest.
      ap (λ (t : List ℕ). read_plan (in_turn plan (cs ++ x ∷ [])) (at place t)) (append_assoc bytes front rest)
      ∙ in_turn-more plan cs x (at place (bytes ++ (front ++ rest))) (at (place + length bytes) (front ++ rest)) vs v (at (place + length bytes + length front) rest) (before.reads (front ++ rest)) (turn.reads rest)
      ∙ ap (λ (k : ℕ). ok_of (vs ++ v ∷ [], at k rest)) (omega (arith, length-append bytes front));
}
