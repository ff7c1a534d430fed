-- Which files are needed, in order, and what they stand for together.
use Rattle.std.specs.Prelude.{◌≡◌, ◌⊎◌, ℕ, Bool, true, false, List, [], ◌∷◌, Option, Some, None, Result, Ok, Err}
use Rattle.lu_grammar.specs.RuleNumbers as rules
use Rattle.lu_grammar.specs.Bytes.{IsBytes}
use Rattle.lu_grammar.specs.Plans.{Plan}
use Rattle.lu_grammar.specs.Meaning.{Reads}
use Rattle.lu_types.specs.declared.kind.FileKind.{FileKind}
use Rattle.lu_types.specs.declared.fault.Spot.{Spot}
use Rattle.lu_types.specs.declared.fault.CodecFault.{CodecFault}
use Rattle.lu_types.specs.declared.fault.CodecFault.TheVariants as faults
use Rattle.lu_types.specs.Judging.{IsFirstFault}

-- no further file, and what the files stand for; or a file of this kind, its bytes where it is there, the plan that bytes are read by, and what is needed after them
pub data FilePlan (X : Type 0) : Type 1 where
  stands : X → FilePlan X
  needs : {V R : Type 0} → FileKind → Option (List ℕ) → (List ℕ → Plan V R) → (List ℕ → V → FilePlan X) → FilePlan X

-- every needed file is there and reads, and together they stand for this
abbrev pub StandFor : {X : Type 0} → FilePlan X → X → Type 0
StandFor (stands y) x = x ≡ y
StandFor (needs kind None plan after) x = ⊥
StandFor (needs {V} kind (Some bytes) plan after) x = (v : V) × Reads (plan bytes) bytes v × StandFor (after bytes v) x

-- the fault of a file that is not there
abbrev pub missing : FileKind → Spot
missing kind = record { kind = kind; offset = 0; rule = rules.missing }

-- the files before one of them read, and this is its first fault, or it is not there
abbrev pub IsFaultAmong : {X : Type 0} → FilePlan X → Spot → Type 0
IsFaultAmong (stands y) spot = ⊥
IsFaultAmong (needs kind None plan after) spot = spot ≡ missing kind
IsFaultAmong (needs {V} kind (Some bytes) plan after) spot = IsFirstFault kind (plan bytes) bytes spot ⊎ ((v : V) × Reads (plan bytes) bytes v × IsFaultAmong (after bytes v) spot)

-- some files, and then others by what the first stand for
abbrev pub followed_by : {A X : Type 0} → FilePlan A → (A → FilePlan X) → FilePlan X
followed_by (stands a) next = next a
followed_by (needs kind found plan after) next = needs kind found plan (λ bytes v. followed_by (after bytes v) next)

-- the files that each of some things needs, one after another, which differ by what those before stand for
unfoldable pub each_file : {A S : Type 0} → (A → S → FilePlan S) → List A → S → FilePlan S
each_file files [] s = stands s
each_file files (a ∷ rest) s = followed_by (files a s) (each_file files rest)

-- files that count only where the test holds, and what they stand for where it does not
abbrev pub where_needed : {X : Type 0} → Bool → X → FilePlan X → FilePlan X
where_needed true otherwise files = files
where_needed false otherwise files = stands otherwise

-- what a check of the files answers: what they stand for, seen so; the first fault; or that there was no memory
abbrev pub Judges : {X Y : Type 0} → (Y → X) → FilePlan X → Result Y CodecFault → Type 0
Judges view files (Ok y) = StandFor files (view y)
Judges view files (Err (faults.Spot spot)) = IsFaultAmong files spot
Judges view files (Err faults.OutOfMemory) = Unit {0}

-- each file is made of bytes
abbrev pub HoldBytes : {X : Type 0} → FilePlan X → Type 0
HoldBytes (stands y) = Unit {0}
HoldBytes (needs kind None plan after) = Unit {0}
HoldBytes (needs {V} kind (Some bytes) plan after) = IsBytes bytes × ((v : V) → HoldBytes (after bytes v))
