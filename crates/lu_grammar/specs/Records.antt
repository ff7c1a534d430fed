-- Records: the parts they are made of, and the conditions that they must meet.
use Rattle.std.specs.Prelude.{◌≡◌, ℕ, zero, suc, Bool, true, false, List, [], ◌∷◌, ◌++◌, Option, Some, None, Result, Ok, Err, ◌⊎◌, if◌then◌else◌}
use Rattle.lu_grammar.specs.declared.bad.Bad.{Bad}
use Rattle.lu_grammar.specs.declared.bad.Bad.TheVariants as bads
use Rattle.lu_grammar.specs.RuleNumbers as rules
use Rattle.lu_grammar.specs.Bytes.{Cursor}
use Rattle.lu_grammar.specs.Parts.{Part, Value, IsValue, spelling, IsWrong}
use Rattle.lu_grammar.specs.Reading.{◌>>=◌, read_part}

-- a record's parts, a later one by the values of those before, and the record that they make
pub data Shape (R : Type 0) : Type 0 where
  whole : R → Shape R
  part : (p : Part) → (Value p → Shape R) → Shape R

-- one shape, and then another by what the first makes
abbrev pub followed : {A R : Type 0} → Shape A → (A → Shape R) → Shape R
followed (whole x) next = next x
followed (part p more) next = part p (λ v. followed (more v) next)

-- a piece of a record that stands only where the test holds
abbrev pub optional : {A R : Type 0} → Bool → Shape A → (Option A → Shape R) → Shape R
optional true shape next = followed shape (λ x. next (Some x))
optional false shape next = next None

-- so many pieces of one shape in a record, after those in front
unfoldable pub repeated : {A R : Type 0} → Shape A → ℕ → List A → (List A → Shape R) → Shape R
repeated shape zero front next = next front
repeated shape (suc n) front next = followed shape (λ x. repeated shape n (front ++ x ∷ []) next)

-- a rule, and whether it is broken
pub record Condition : Type 0 where
  pub rule : ℕ
  pub broken : Bool

-- the first rule that is broken
abbrev pub first_broken : List Condition → Option ℕ
first_broken [] = None
first_broken (c ∷ cs) = if c.broken then Some c.rule else first_broken cs

-- the rule that a part without a spelling breaks
abbrev pub rule_of : Bad → ℕ
rule_of bads.Ends = rules.ends
rule_of bads.LongNumber = rules.long_number
rule_of bads.TooGreat = rules.too_great
rule_of bads.NotUtf8 = rules.not_utf8

-- ---- the meaning

-- these bytes spell the record, part by part
abbrev pub Spells : {R : Type 0} → Shape R → R → List ℕ → Type 0
Spells (whole r) s front = (r ≡ s) × (front ≡ [])
Spells (part p next) s front = (v : Value p) × (back : List ℕ) × IsValue p v × (front ≡ spelling p v ++ back) × Spells (next v) s back

-- no record of this shape begins the bytes, and this is wrong with its first part that has no spelling
abbrev pub IsUnread : {R : Type 0} → Shape R → List ℕ → Bad → Type 0
IsUnread (whole r) bs bad = ⊥
IsUnread (part p next) bs bad = IsWrong p bs bad ⊎ ((v : Value p) × (back : List ℕ) × IsValue p v × (bs ≡ spelling p v ++ back) × IsUnread (next v) back bad)

-- this is the first rule that the record due here breaks
abbrev pub Breaks : {R : Type 0} → Shape R → (R → List Condition) → List ℕ → ℕ → Type 0
Breaks {R} shape conditions bs rule = ((bad : Bad) × IsUnread shape bs bad × (rule ≡ rule_of bad))
    ⊎ ((r : R) × (front : List ℕ) × (back : List ℕ) × Spells shape r front × (bs ≡ front ++ back) × (first_broken (conditions r) ≡ Some rule))

-- ---- reading

-- the record that stands here and the place after it, or what is wrong with its first part that has no spelling
abbrev pub read_shape : {R : Type 0} → Shape R → Cursor → Result (R × Cursor) Bad
read_shape (whole r) c = Ok (r, c)
read_shape (part p next) c = read_part p c >>= λ x. read_shape (next x.0) x.1

-- the value where no rule is broken
abbrev pub unless_broken : {A : Type 0} → A → Option ℕ → Result A ℕ
unless_broken x None = Ok x
unless_broken x (Some rule) = Err rule

-- a record that was read, where it breaks no condition
abbrev pub judged : {R : Type 0} → (R → List Condition) → Result (R × Cursor) Bad → Result (R × Cursor) ℕ
judged conditions (Ok x) = unless_broken x (first_broken (conditions x.0))
judged conditions (Err bad) = Err (rule_of bad)

-- the good record that stands here and the place after it, or the first rule that is broken
unfoldable pub record_at : {R : Type 0} → Shape R → (R → List Condition) → Cursor → Result (R × Cursor) ℕ
record_at shape conditions c = judged conditions (read_shape shape c)
