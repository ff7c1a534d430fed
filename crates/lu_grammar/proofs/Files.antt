-- What reading all of the bytes answers: their value, or the first fault.
use Rattle.std.proofs.Common.{◌≡◌, ◌≢◌, ℕ, ◌+◌, ◌<◌, true, false, eqb, List, [], ◌++◌, length, Result, Ok, Err, refl, sym, ap, subst, ◌∙◌, arith, inl, inr, ◌⊎◌}
use Rattle.std.specs.Prelude.{MatchResult}
use Rattle.std.proofs.lemmas.Bool.{eq-eqb, ne_eqb, cases_eq}
use Rattle.std.proofs.lemmas.List.{append-nil, nil_from_length}
use Rattle.lu_grammar.specs.RuleNumbers as rules
use Rattle.lu_grammar.specs.Bytes.{IsBytes, Cursor, start_of, end_of}
use Rattle.lu_grammar.specs.Reading.{◌>>=◌}
use Rattle.lu_grammar.specs.Plans.{Plan, done, due, Broken, read_plan, ended, read_file}
use Rattle.lu_grammar.specs.Meaning.{bytes_of, due_after, ReadsTo, Reads, BreaksHere, FaultFrom, FirstFault}
use Rattle.lu_grammar.proofs.Parts.{IsBytes-back}
use Rattle.lu_grammar.proofs.Records.{at, record_at-broken}
use Rattle.lu_grammar.proofs.Plans.{read_plan-good, read_plan-ReadsTo, read_plan-judges, PlanJudges, EndsAt, FaultFrom-EndsAt, read_due_broken, ok_of, err_of}

-- ---- a value

pub read_file-Reads : {V R : Type 0} (plan : Plan V R) (bytes : List ℕ) (v : V) → Reads plan bytes v → read_file plan bytes ≡ Ok v
read_file-Reads {V} {R} plan bytes v h = ap (λ (r : Result (V × Cursor) Broken). r >>= ended) (read_plan-ReadsTo plan (start_of bytes) v (end_of bytes) h)

-- where nothing is left the end is the end of the bytes
whole : {V R : Type 0} (plan : Plan V R) (bytes : List ℕ) (v : V) (d : Cursor) → d.rest ≡ [] → ReadsTo plan (start_of bytes) v d → Reads plan bytes v
whole plan bytes v d none h =
    let all : bytes ≡ bytes_of h.records = h.front ∙ ap (λ (t : List ℕ). bytes_of h.records ++ t) none ∙ append-nil (bytes_of h.records) in
    record { records = h.records; good = h.good; none_due = h.none_due; front = h.front ∙ ap (λ (t : List ℕ). bytes_of h.records ++ t) none; place = ap length all ∙ (let e : length (bytes_of h.records) ≡ 0 + length (bytes_of h.records) = omega arith in e) }

-- bytes that are left where none is due are a fault
left : {V R : Type 0} (plan : Plan V R) (c : Cursor) (v : V) (d : Cursor) → d.rest ≢ [] → ReadsTo plan c v d → EndsAt plan c d.place rules.trailing
left {V} {R} plan c v d some h =
    let none_due : Plan V R = done v in
    let broken : BreaksHere none_due d.place d.rest rules.trailing = (some, refl) in
    record { records = h.records; more = d.rest; good = h.good; front = h.front; place = h.place; broken = subst (λ (p : Plan V R). BreaksHere p d.place d.rest rules.trailing) (sym h.none_due) broken }

-- reading all of the bytes answers their value, or the first fault
abbrev pub FileJudges : {V R : Type 0} → Plan V R → List ℕ → Result V Broken → Type 0
FileJudges plan bytes r = MatchResult r (λ v. Reads plan bytes v) (λ b. FirstFault plan bytes b.offset b.rule)

pub read_file-judges : {V R : Type 0} (plan : Plan V R) (bytes : List ℕ) → IsBytes bytes → FileJudges plan bytes (read_file plan bytes)
read_file-judges {V} {R} plan bytes fits = go (read_plan plan (start_of bytes)) (read_plan-judges plan (start_of bytes) fits)
  where
    go : (r : Result (V × Cursor) Broken) → PlanJudges plan (start_of bytes) r → FileJudges plan bytes (r >>= ended)
    go (Err b) h = FaultFrom-EndsAt plan (start_of bytes) b.offset b.rule fits h
    go (Ok x) h = elim (cases_eq (length x.1.rest) 0) [
      | inl none ↦ let t : eqb (length x.1.rest) 0 ≡ true = eq-eqb _ _ none in rw t (whole plan bytes x.0 x.1 (nil_from_length x.1.rest none) h.0)
      | inr some ↦ let f : eqb (length x.1.rest) 0 ≡ false = ne_eqb _ _ some in rw f (FaultFrom-EndsAt plan (start_of bytes) x.1.place rules.trailing fits (left plan (start_of bytes) x.0 x.1 (λ e. some (ap length e)) h.0))
    ]

-- what reading answers is so
pub Reads-from : {V R : Type 0} (plan : Plan V R) (bytes : List ℕ) (v : V) → IsBytes bytes → read_file plan bytes ≡ Ok v → Reads plan bytes v
Reads-from {V} {R} plan bytes v fits e = let h : FileJudges plan bytes (ok_of v) = subst (λ (r : Result V Broken). FileJudges plan bytes r) e (read_file-judges plan bytes fits) in h

pub FirstFault-from : {V R : Type 0} (plan : Plan V R) (bytes : List ℕ) (b : Broken) → IsBytes bytes → read_file plan bytes ≡ Err b → FirstFault plan bytes b.offset b.rule
FirstFault-from {V} {R} plan bytes b fits e = let h : FileJudges plan bytes (err_of b) = subst (λ (r : Result V Broken). FileJudges plan bytes r) e (read_file-judges plan bytes fits) in h

-- ---- a fault

-- at the end of good records reading goes on with what is due there
to_fault : {V R : Type 0} (plan : Plan V R) (c : Cursor) (offset rule : ℕ) (h : FaultFrom plan c offset rule) → read_plan plan c ≡ read_plan (due_after plan c.place h.records) (at offset h.more)
to_fault plan c offset rule h =
    ap (λ (t : List ℕ). read_plan plan (at c.place t)) h.front ∙ read_plan-good plan c.place h.records h.more h.good
    ∙ ap (λ (n : ℕ). read_plan (due_after plan c.place h.records) (at n h.more)) (sym h.place)

-- a broken rule where a record is due, or bytes where none is
abbrev pub FaultReads : {V R : Type 0} → Plan V R → Cursor → ℕ → ℕ → Type 0
FaultReads {V} {R} plan c offset rule = (read_plan plan c ≡ Err (record { offset = offset; rule = rule }))
    ⊎ ((v : V) × (more : List ℕ) × (more ≢ []) × (rule ≡ rules.trailing) × (read_plan plan c ≡ Ok (v, at offset more)))

fault_here : {V R : Type 0} (plan : Plan V R) (offset : ℕ) (more : List ℕ) (rule : ℕ) → IsBytes more → BreaksHere plan offset more rule → FaultReads plan (at offset more) offset rule
unfolding read_plan
fault_here (done v) offset more rule fits h = inr (v, more, h.0, h.1, refl)
fault_here (due shape conditions after) offset more rule fits h = inl (read_due_broken shape conditions after (at offset more) rule (record_at-broken shape (conditions offset) offset more rule fits h))

pub read_plan-FaultFrom : {V R : Type 0} (plan : Plan V R) (c : Cursor) (offset rule : ℕ) → IsBytes c.rest → FaultFrom plan c offset rule → FaultReads plan c offset rule
read_plan-FaultFrom {V} {R} plan c offset rule fits h =
    let to = to_fault plan c offset rule h in
    elim (fault_here (due_after plan c.place h.records) offset h.more rule (IsBytes-back (bytes_of h.records) c.rest h.more h.front fits) h.broken) [
      | inl e ↦ inl (to ∙ e)
      | inr (v, more, some, is, e) ↦ inr (v, more, some, is, to ∙ e)
    ]

pub read_file-FirstFault : {V R : Type 0} (plan : Plan V R) (bytes : List ℕ) (offset rule : ℕ) → IsBytes bytes → FirstFault plan bytes offset rule → read_file plan bytes ≡ Err (record { offset = offset; rule = rule })
read_file-FirstFault {V} {R} plan bytes offset rule fits h =
    elim (read_plan-FaultFrom plan (start_of bytes) offset rule fits h) [
      | inl e ↦ ap (λ (r : Result (V × Cursor) Broken). r >>= ended) e
      | inr (v, more, some, is, e) ↦
          let f : eqb (length more) 0 ≡ false = ne_eqb _ _ (λ none. some (nil_from_length more none)) in
          ap (λ (r : Result (V × Cursor) Broken). r >>= ended) e ∙ rw (f, is) refl
    ]

-- ---- what a check that reads the plan shows

-- a fault of the plan is the first one of the file
pub file-fault : {V R : Type 0} (plan : Plan V R) (bytes : List ℕ) (offset rule : ℕ) → IsBytes bytes → read_plan plan (start_of bytes) ≡ Err (record { offset = offset; rule = rule }) → FirstFault plan bytes offset rule
file-fault {V} {R} plan bytes offset rule fits e = FirstFault-from plan bytes (record { offset = offset; rule = rule }) fits (ap (λ (r : Result (V × Cursor) Broken). r >>= ended) e)

-- bytes that are left are its first fault
pub file-left : {V R : Type 0} (plan : Plan V R) (bytes : List ℕ) (v : V) (d : Cursor) → IsBytes bytes → read_plan plan (start_of bytes) ≡ Ok (v, d) → 0 < length d.rest → FirstFault plan bytes d.place rules.trailing
file-left {V} {R} plan bytes v d fits e some =
    let not_none : eqb (length d.rest) 0 ≡ false = ne_eqb (length d.rest) 0 (λ none. omega arith) in
    let all : read_file plan bytes ≡ Err (record { offset = d.place; rule = rules.trailing }) = ap (λ (r : Result (V × Cursor) Broken). r >>= ended) e ∙ rw not_none refl in
    FirstFault-from plan bytes (record { offset = d.place; rule = rules.trailing }) fits all

-- where none are left the file is read
pub file-read : {V R : Type 0} (plan : Plan V R) (bytes : List ℕ) (v : V) (d : Cursor) → IsBytes bytes → read_plan plan (start_of bytes) ≡ Ok (v, d) → length d.rest ≡ 0 → Reads plan bytes v
file-read {V} {R} plan bytes v d fits e none =
    let nothing : eqb (length d.rest) 0 ≡ true = eq-eqb (length d.rest) 0 none in
    Reads-from plan bytes v fits (ap (λ (r : Result (V × Cursor) Broken). r >>= ended) e ∙ rw nothing refl)
