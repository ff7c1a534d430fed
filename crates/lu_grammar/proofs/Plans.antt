-- Reading judges: it answers what the good records stand for, or the first fault.
use Rattle.std.proofs.Common.{◌≡◌, ℕ, ◌+◌, ◌≤◌, List, [], ◌∷◌, ◌++◌, length, Result, Ok, Err, refl, sym, ap, subst, ◌∙◌, append_assoc, arith}
use Rattle.std.specs.Prelude.{MatchResult}
use Rattle.std.proofs.lemmas.List.{length-append, append_cancel_right}
use Rattle.lu_grammar.specs.Bytes.{IsBytes, Cursor}
use Rattle.lu_grammar.specs.Reading.{◌>>=◌, value_or}
use Rattle.lu_grammar.specs.Records.{Shape, Condition, Breaks, record_at}
use Rattle.lu_grammar.specs.Plans.{Plan, done, due, Broken, broken_at, read_plan}
use Rattle.lu_grammar.specs.Meaning.{Spelled, bytes_of, IsGood, AreGood, due_after, ReadsTo, BreaksHere, FaultFrom}
use Rattle.lu_grammar.proofs.Parts.{IsBytes-back}
use Rattle.lu_grammar.proofs.Records.{at, IsGoodRecord, record_at-judges, record_at-good, record_at-broken, ok_pair, same_pair}

-- what is due after a record that was read is read
pub read_due : {V R : Type 0} (shape : Shape R) (conditions : ℕ → R → List Condition) (after : ℕ → R → Plan V R) (c : Cursor) (r : R) (d : Cursor)
    → record_at shape (conditions c.place) c ≡ Ok (r, d) → read_plan (due shape conditions after) c ≡ read_plan (after c.place r) d
unfolding read_plan
read_due {V} {R} shape conditions after c r d e = ap (λ (x : Result (R × Cursor) ℕ). broken_at c.place x >>= λ y. read_plan (after c.place y.0) y.1) e

-- a rule that the record due here breaks ends the reading
pub read_due_broken : {V R : Type 0} (shape : Shape R) (conditions : ℕ → R → List Condition) (after : ℕ → R → Plan V R) (c : Cursor) (rule : ℕ)
    → record_at shape (conditions c.place) c ≡ Err rule → read_plan (due shape conditions after) c ≡ Err (record { offset = c.place; rule = rule })
unfolding read_plan
read_due_broken {V} {R} shape conditions after c rule e = ap (λ (x : Result (R × Cursor) ℕ). broken_at c.place x >>= λ y. read_plan (after c.place y.0) y.1) e

-- good records are read, and then what is due after them
pub read_plan-good : {V R : Type 0} (plan : Plan V R) (place : ℕ) (records : List (Spelled R)) (rest : List ℕ) → AreGood plan place records
    → read_plan plan (at place (bytes_of records ++ rest)) ≡ read_plan (due_after plan place records) (at (place + length (bytes_of records)) rest)
read_plan-good plan place [] rest good = ap (λ (n : ℕ). read_plan plan (at n rest)) (let e : place ≡ place + 0 = omega arith in e)
read_plan-good (done v) place (s ∷ ss) rest good = absurd good
read_plan-good (due shape conditions after) place (s ∷ ss) rest good =
    let tail = bytes_of ss in
    ap (λ (t : List ℕ). read_plan (due shape conditions after) (at place t)) (append_assoc s.front tail rest)
    ∙ read_due shape conditions after (at place (s.front ++ (tail ++ rest))) s.it (at (place + length s.front) (tail ++ rest)) (record_at-good shape (conditions place) s.it s.front place (tail ++ rest) good.0.0 good.0.1)
    ∙ read_plan-good (after place s.it) (place + length s.front) ss rest good.1
    ∙ ap (λ (n : ℕ). read_plan (due_after (after place s.it) (place + length s.front) ss) (at n rest)) (omega (arith, length-append s.front tail))

-- where the records of a plan stand, reading finds what they stand for
pub read_plan-ReadsTo : {V R : Type 0} (plan : Plan V R) (c : Cursor) (v : V) (d : Cursor) → ReadsTo plan c v d → read_plan plan c ≡ Ok (v, d)
unfolding read_plan
read_plan-ReadsTo plan c v d h =
    ap (λ (t : List ℕ). read_plan plan (at c.place t)) h.front ∙ read_plan-good plan c.place h.records d.rest h.good
    ∙ ap (λ (p : _). read_plan p (at (c.place + length (bytes_of h.records)) d.rest)) h.none_due
    ∙ ap (λ (n : ℕ). Ok (v, at n d.rest)) (sym h.place)

-- one more record before the records of a plan
ReadsTo-due : {V R : Type 0} (shape : Shape R) (conditions : ℕ → R → List Condition) (after : ℕ → R → Plan V R) (c : Cursor) (r : R) (d : Cursor) (v : V) (e : Cursor)
    → IsGoodRecord shape (conditions c.place) c (r, d) → ReadsTo (after c.place r) d v e → ReadsTo (due shape conditions after) c v e
ReadsTo-due {V} {R} shape conditions after c r d v e good h =
    let first : Spelled R = record { it = r; front = good.0.front } in
    let good_tail : AreGood (after c.place r) (c.place + length good.0.front) h.records = subst (λ (n : ℕ). AreGood (after c.place r) n h.records) good.0.place h.good in
    let due_tail : due_after (after c.place r) (c.place + length good.0.front) h.records ≡ done v = subst (λ (n : ℕ). due_after (after c.place r) n h.records ≡ done v) good.0.place h.none_due in
    record {
      records = first ∷ h.records;
      good = ((good.0.spells, good.1), good_tail);
      none_due = due_tail;
      front = good.0.rest ∙ ap (λ (t : List ℕ). good.0.front ++ t) h.front ∙ sym (append_assoc good.0.front (bytes_of h.records) e.rest);
      place = omega (arith, h.place, good.0.place, length-append good.0.front (bytes_of h.records));
    }

-- good records to a place where a rule is broken
pub record EndsAt {V R : Type 0} (plan : Plan V R) (from : Cursor) (offset rule : ℕ) : Type 0 where
  pub records : List (Spelled R)
  pub more : List ℕ
  pub good : AreGood plan from.place records
  pub front : from.rest ≡ bytes_of records ++ more
  pub place : offset ≡ from.place + length (bytes_of records)
  pub broken : BreaksHere (due_after plan from.place records) offset more rule

EndsAt-due : {V R : Type 0} (shape : Shape R) (conditions : ℕ → R → List Condition) (after : ℕ → R → Plan V R) (c : Cursor) (r : R) (d : Cursor) (offset rule : ℕ)
    → IsGoodRecord shape (conditions c.place) c (r, d) → EndsAt (after c.place r) d offset rule → EndsAt (due shape conditions after) c offset rule
EndsAt-due {V} {R} shape conditions after c r d offset rule good h =
    let first : Spelled R = record { it = r; front = good.0.front } in
    let good_tail : AreGood (after c.place r) (c.place + length good.0.front) h.records = subst (λ (n : ℕ). AreGood (after c.place r) n h.records) good.0.place h.good in
    record {
      records = first ∷ h.records;
      more = h.more;
      good = ((good.0.spells, good.1), good_tail);
      front = good.0.rest ∙ ap (λ (t : List ℕ). good.0.front ++ t) h.front ∙ sym (append_assoc good.0.front (bytes_of h.records) h.more);
      place = omega (arith, h.place, good.0.place, length-append good.0.front (bytes_of h.records));
      broken = subst (λ (n : ℕ). BreaksHere (due_after (after c.place r) n h.records) offset h.more rule) good.0.place h.broken;
    }

abbrev pub PlanJudges : {V R : Type 0} → Plan V R → Cursor → Result (V × Cursor) Broken → Type 0
PlanJudges plan c r = MatchResult r (λ x. ReadsTo plan c x.0 x.1 × IsBytes x.1.rest) (λ b. EndsAt plan c b.offset b.rule)

pub read_plan-judges : {V R : Type 0} (plan : Plan V R) (c : Cursor) → IsBytes c.rest → PlanJudges plan c (read_plan plan c)
unfolding read_plan
read_plan-judges (done v) c fits = (record { records = []; good = tt; none_due = refl; front = refl; place = omega arith }, fits)
read_plan-judges {V} {R} (due shape conditions after) c fits =
    go (λ x. read_plan-judges (after c.place x.0) x.1) (record_at shape (conditions c.place) c) (record_at-judges shape (conditions c.place) c fits)
  where
    before : (x : R × Cursor) → IsGoodRecord shape (conditions c.place) c x → (r : Result (V × Cursor) Broken) → PlanJudges (after c.place x.0) x.1 r → PlanJudges (due shape conditions after) c r
    before x good (Ok y) h = (ReadsTo-due shape conditions after c x.0 x.1 y.0 y.1 good h.0, h.1)
    before x good (Err b) h = EndsAt-due shape conditions after c x.0 x.1 b.offset b.rule good h

    go : ((x : R × Cursor) → IsBytes x.1.rest → PlanJudges (after c.place x.0) x.1 (read_plan (after c.place x.0) x.1)) → (r : Result (R × Cursor) ℕ)
        → MatchResult r (λ x. IsGoodRecord shape (conditions c.place) c x) (λ rule. Breaks shape (conditions c.place) c.rest rule)
        → PlanJudges (due shape conditions after) c (broken_at c.place r >>= λ x. read_plan (after c.place x.0) x.1)
    go later (Ok x) good = before x good (read_plan (after c.place x.0) x.1) (later x good.0.fits)
    go later (Err rule) broken = record { records = []; more = c.rest; good = tt; front = refl; place = omega arith; broken = broken }

abbrev pub ok_of : {A E : Type 0} → A → Result A E
ok_of x = Ok x

-- a result that is some value is its value
pub settled : {V E : Type 0} (other v : V) (r : Result V E) → r ≡ ok_of v → r ≡ Ok (value_or other r)
settled other v r e = e ∙ ap ok_of (sym (ap (value_or other) e))

abbrev pub err_of : {A E : Type 0} → E → Result A E
err_of e = Err e

pub err_is_not_ok : {A E : Type 0} {x : A} {e : E} → err_of {A = A} e ≡ ok_of x → ⊥
err_is_not_ok h = cc

-- two good records that begin the same bytes at one place are one
pub one_record : {R : Type 0} (shape : Shape R) (conditions : R → List Condition) (place : ℕ) (s t : Spelled R) (x y : List ℕ) → IsGood shape conditions s → IsGood shape conditions t → s.front ++ x ≡ t.front ++ y
    → (s.it ≡ t.it) × (s.front ≡ t.front) × (x ≡ y)
one_record {R} shape conditions place s t x y good_s good_t same =
    let left = record_at-good shape conditions s.it s.front place x good_s.0 good_s.1 in
    let right = record_at-good shape conditions t.it t.front place y good_t.0 good_t.1 in
    let both : ok_pair {E = ℕ} s.it (at (place + length s.front) x) ≡ ok_pair t.it (at (place + length t.front) y) = sym left ∙ ap (λ (f : List ℕ). record_at shape conditions (at place f)) same ∙ right in
    let parts = same_pair s.it t.it (at (place + length s.front) x) (at (place + length t.front) y) both in
    let rests : x ≡ y = ap (λ (c : Cursor). c.rest) parts.1 in
    (parts.0, append_cancel_right s.front t.front y (ap (λ (r : List ℕ). s.front ++ r) (sym rests) ∙ same), rests)

-- no longer list of good records begins the bytes than one that ends where a rule is broken
pub longest : {V R : Type 0} (plan : Plan V R) (place : ℕ) (records others : List (Spelled R)) (bs more back : List ℕ) (offset rule : ℕ) → IsBytes bs → AreGood plan place records → AreGood plan place others
    → bs ≡ bytes_of records ++ more → bs ≡ bytes_of others ++ back → offset ≡ place + length (bytes_of records) → BreaksHere (due_after plan place records) offset more rule → length others ≤ length records
longest plan place records [] bs more back offset rule fits good good_others front front_others is broken = omega arith
longest (done v) place records (o ∷ os) bs more back offset rule fits good good_others front front_others is broken = absurd good_others
longest (due shape conditions after) place [] (o ∷ os) bs more back offset rule fits good good_others front front_others is broken =
    let here : Breaks shape (conditions place) more rule = subst (λ (n : ℕ). Breaks shape (conditions n) more rule) (let e : offset ≡ place = omega (arith, is) in e) broken in
    let fits_more : IsBytes more = subst IsBytes front fits in
    let left = record_at-broken shape (conditions place) place more rule fits_more here in
    let split : more ≡ o.front ++ (bytes_of os ++ back) = sym front ∙ front_others ∙ append_assoc o.front (bytes_of os) back in
    let right = record_at-good shape (conditions place) o.it o.front place (bytes_of os ++ back) good_others.0.0 good_others.0.1 in
    absurd (err_is_not_ok (sym left ∙ ap (λ (f : List ℕ). record_at shape (conditions place) (at place f)) split ∙ right))
longest {V} {R} (due shape conditions after) place (s ∷ ss) (o ∷ os) bs more back offset rule fits good good_others front front_others is broken =
    let split_s : bs ≡ s.front ++ (bytes_of ss ++ more) = front ∙ append_assoc s.front (bytes_of ss) more in
    let split_o : bs ≡ o.front ++ (bytes_of os ++ back) = front_others ∙ append_assoc o.front (bytes_of os) back in
    let one = one_record shape (conditions place) place s o (bytes_of ss ++ more) (bytes_of os ++ back) good.0 good_others.0 (sym split_s ∙ split_o) in
    let same_plan : AreGood (after place s.it) (place + length s.front) os =
    subst (λ (n : ℕ). AreGood (after place s.it) (place + n) os) (ap length (sym one.1)) (subst (λ (r : R). AreGood (after place r) (place + length o.front) os) (sym one.0) good_others.1) in
    let fewer = longest (after place s.it) (place + length s.front) ss os (bytes_of ss ++ more) more back offset rule (IsBytes-back s.front bs (bytes_of ss ++ more) split_s fits) good.1 same_plan refl one.2
    (omega (arith, is, length-append s.front (bytes_of ss))) broken in
    omega (arith, fewer)

-- ---- the laws

pub FaultFrom-EndsAt : {V R : Type 0} (plan : Plan V R) (c : Cursor) (offset rule : ℕ) → IsBytes c.rest → EndsAt plan c offset rule → FaultFrom plan c offset rule
FaultFrom-EndsAt plan c offset rule fits h = record {
  records = h.records;
  more = h.more;
  good = h.good;
  front = h.front;
  longest = λ others back good front. longest plan c.place h.records others c.rest h.more back offset rule fits h.good good h.front front h.place h.broken;
  place = h.place;
  broken = h.broken;
}

-- reading answers a fault where it is
pub fault-read_plan : {V R : Type 0} (plan : Plan V R) (c : Cursor) (b : Broken) → IsBytes c.rest → read_plan plan c ≡ Err b → FaultFrom plan c b.offset b.rule
fault-read_plan {V} {R} plan c b fits e =
    FaultFrom-EndsAt plan c b.offset b.rule fits (subst (λ (r : Result (V × Cursor) Broken). PlanJudges plan c r) e (read_plan-judges plan c fits))

-- reading answers the value that the records stand for
pub reads-read_plan : {V R : Type 0} (plan : Plan V R) (c : Cursor) (v : V) (d : Cursor) → IsBytes c.rest → read_plan plan c ≡ Ok (v, d) → ReadsTo plan c v d
reads-read_plan {V} {R} plan c v d fits e =
    let h : ReadsTo plan c v d × IsBytes d.rest = subst (λ (r : Result (V × Cursor) Broken). PlanJudges plan c r) e (read_plan-judges plan c fits) in h.0
