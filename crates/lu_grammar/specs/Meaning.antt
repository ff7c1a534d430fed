-- What it means that bytes are the records of a plan, and where the first fault stands.
use Rattle.std.specs.Prelude.{◌≡◌, ◌≢◌, ℕ, ◌+◌, ◌≤◌, List, [], ◌∷◌, ◌++◌, length, None}
use Rattle.std.specs.List.{flat_map}
use Rattle.lu_grammar.specs.RuleNumbers as rules
use Rattle.lu_grammar.specs.Bytes.{Cursor, start_of, end_of}
use Rattle.lu_grammar.specs.Records.{Shape, Condition, Spells, Breaks, first_broken}
use Rattle.lu_grammar.specs.Plans.{Plan, done, due}

-- a record and its bytes
pub record Spelled (R : Type 0) : Type 0 where
  pub it : R
  pub front : List ℕ

-- the bytes of some records, one after another
abbrev pub bytes_of : {R : Type 0} → List (Spelled R) → List ℕ
bytes_of records = flat_map (λ s. s.front) records

-- the bytes spell a record of the shape, and it breaks no condition
abbrev pub IsGood : {R : Type 0} → Shape R → (R → List Condition) → Spelled R → Type 0
IsGood shape conditions s = Spells shape s.it s.front × (first_broken (conditions s.it) ≡ None)

-- from this place on each of the records is due after those before it, and good
abbrev pub AreGood : {V R : Type 0} → Plan V R → ℕ → List (Spelled R) → Type 0
AreGood plan place [] = Unit {0}
AreGood (done v) place (s ∷ ss) = ⊥
AreGood (due shape conditions after) place (s ∷ ss) = IsGood shape (conditions place) s × AreGood (after place s.it) (place + length s.front) ss

-- what is due after the records
abbrev pub due_after : {V R : Type 0} → Plan V R → ℕ → List (Spelled R) → Plan V R
due_after plan place [] = plan
due_after (done v) place (s ∷ ss) = done v
due_after (due shape conditions after) place (s ∷ ss) = due_after (after place s.it) (place + length s.front) ss

-- between two places stand all records of the plan, and they stand for this value
pub record ReadsTo {V R : Type 0} (plan : Plan V R) (from : Cursor) (value : V) (to : Cursor) : Type 0 where
  pub records : List (Spelled R)
  pub good : AreGood plan from.place records
  pub none_due : due_after plan from.place records ≡ done value
  pub front : from.rest ≡ bytes_of records ++ to.rest
  pub place : to.place ≡ from.place + length (bytes_of records)

-- all of the bytes are the records of the plan, and they stand for this value
abbrev pub Reads : {V R : Type 0} → Plan V R → List ℕ → V → Type 0
Reads plan bytes value = ReadsTo plan (start_of bytes) value (end_of bytes)

-- at this place the rule is broken by the record that is due here, or by the bytes that are left where none is due
abbrev pub BreaksHere : {V R : Type 0} → Plan V R → ℕ → List ℕ → ℕ → Type 0
BreaksHere (done v) place bytes rule = (bytes ≢ []) × (rule ≡ rules.trailing)
BreaksHere (due shape conditions after) place bytes rule = Breaks shape (conditions place) bytes rule

-- the longest list of good records that begins the bytes ends at this offset, and there this rule is broken first
pub record FaultFrom {V R : Type 0} (plan : Plan V R) (from : Cursor) (offset rule : ℕ) : Type 0 where
  pub records : List (Spelled R)
  pub more : List ℕ
  pub good : AreGood plan from.place records
  pub front : from.rest ≡ bytes_of records ++ more
  pub longest : (others : List (Spelled R)) (back : List ℕ) → AreGood plan from.place others → from.rest ≡ bytes_of others ++ back → length others ≤ length records
  pub place : offset ≡ from.place + length (bytes_of records)
  pub broken : BreaksHere (due_after plan from.place records) offset more rule

-- the first fault of a file
abbrev pub FirstFault : {V R : Type 0} → Plan V R → List ℕ → ℕ → ℕ → Type 0
FirstFault plan bytes offset rule = FaultFrom plan (start_of bytes) offset rule
