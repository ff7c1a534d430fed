-- Which records a file has, in order, and what they stand for.
use Rattle.std.specs.Prelude.{ℕ, zero, suc, List, [], ◌∷◌, ◌++◌, Result, Ok, Err, length, ◌==◌, if◌then◌else◌}
use Rattle.lu_grammar.specs.RuleNumbers as rules
use Rattle.lu_grammar.specs.Bytes.{Cursor, start_of}
use Rattle.lu_grammar.specs.Reading.{◌>>=◌}
use Rattle.lu_grammar.specs.Records.{Shape, Condition, record_at}

-- nothing more, and what the records stand for; or a record of this shape, its conditions by its place, and what is due after it
pub data Plan (V R : Type 0) : Type 0 where
  done : V → Plan V R
  due : Shape R → (ℕ → R → List Condition) → (ℕ → R → Plan V R) → Plan V R

-- one plan, and then another by what the first stands for
abbrev pub and_then : {V W R : Type 0} → Plan V R → (V → Plan W R) → Plan W R
and_then (done v) next = next v
and_then (due shape conditions after) next = due shape conditions (λ place r. and_then (after place r) next)

-- records of one kind, which differ by what the records before stand for
pub record Kind (S R : Type 0) : Type 0 where
  pub shape : S → Shape R
  pub conditions : S → ℕ → R → List Condition
  pub after : S → ℕ → R → S

-- one record of the kind
abbrev pub one : {S R : Type 0} → Kind S R → S → Plan S R
one kind s = due (kind.shape s) (kind.conditions s) (λ place r. done (kind.after s place r))

-- so many times the plan that the state calls for
unfoldable pub each : {S R : Type 0} → (S → Plan S R) → ℕ → S → Plan S R
each plan zero s = done s
each plan (suc n) s = and_then (plan s) (each plan n)

-- so many records of one kind
abbrev pub times : {S R : Type 0} → Kind S R → ℕ → S → Plan S R
times kind n s = each (one kind) n s

-- the plans of some things, one after another, and what each stands for, behind these
abbrev pub gather : {C V R : Type 0} → (C → Plan V R) → List V → List C → Plan (List V) R
gather plan front [] = done front
gather plan front (c ∷ cs) = and_then (plan c) (λ v. gather plan (front ++ v ∷ []) cs)

-- the plans of some things, one after another, and what each stands for
abbrev pub in_turn : {C V R : Type 0} → (C → Plan V R) → List C → Plan (List V) R
in_turn plan cs = gather plan [] cs

-- a rule is broken at an offset
pub record Broken : Type 0 where
  pub offset : ℕ
  pub rule : ℕ

-- the same, or the rule at this offset
abbrev pub broken_at : {A : Type 0} → ℕ → Result A ℕ → Result A Broken
broken_at offset (Ok x) = Ok x
broken_at offset (Err rule) = Err (record { offset = offset; rule = rule })

-- what the records from here on stand for and the place after them, or the first fault
unfoldable pub read_plan : {V R : Type 0} → Plan V R → Cursor → Result (V × Cursor) Broken
read_plan (done v) c = Ok (v, c)
read_plan (due shape conditions after) c = broken_at c.place (record_at shape (conditions c.place) c) >>= λ x. read_plan (after c.place x.0) x.1

-- the value where no bytes are left
abbrev pub ended : {V : Type 0} → V × Cursor → Result V Broken
ended x = if length x.1.rest == 0 then Ok x.0 else Err (record { offset = x.1.place; rule = rules.trailing })

-- what all of the bytes stand for, or the first fault
abbrev pub read_file : {V R : Type 0} → Plan V R → List ℕ → Result V Broken
read_file plan bytes = read_plan plan (start_of bytes) >>= ended
