-- What the answer of a check says of the bytes of a file.
use Rattle.std.specs.Prelude.{◌≡◌, ℕ, List, Result, Ok, Err}
use Rattle.lu_grammar.specs.Bytes.{Cursor}
use Rattle.lu_grammar.specs.Plans.{Plan, Broken}
use Rattle.lu_grammar.specs.Meaning.{Reads, FirstFault}
use Rattle.lu_types.specs.declared.kind.FileKind.{FileKind}
use Rattle.lu_types.specs.declared.fault.Spot.{Spot}
use Rattle.lu_types.specs.declared.fault.CodecFault.{CodecFault}
use Rattle.lu_types.specs.declared.fault.CodecFault.TheVariants as faults

-- the spot is the first fault of these bytes, as a file of this kind
abbrev pub IsFirstFault : {V R : Type 0} → FileKind → Plan V R → List ℕ → Spot → Type 0
IsFirstFault kind plan bytes spot = (spot.kind ≡ kind) × FirstFault plan bytes spot.offset spot.rule

-- the fault is the first one of these bytes, or there was no memory
abbrev pub IsFault : {V R : Type 0} → FileKind → Plan V R → List ℕ → CodecFault → Type 0
IsFault kind plan bytes (faults.Spot spot) = IsFirstFault kind plan bytes spot
IsFault kind plan bytes faults.OutOfMemory = Unit {0}

-- what a check of a file answers: what all of the bytes stand for, seen so; or their first fault, or that there was no memory
abbrev pub Checks : {X V R : Type 0} → (X → V) → FileKind → Plan V R → List ℕ → Result X CodecFault → Type 0
Checks view kind plan bytes (Ok x) = Reads plan bytes (view x)
Checks view kind plan bytes (Err fault) = IsFault kind plan bytes fault

-- the same of a check that takes no memory
abbrev pub ChecksPlain : {X V R : Type 0} → (X → V) → FileKind → Plan V R → List ℕ → Result X Spot → Type 0
ChecksPlain view kind plan bytes (Ok x) = Reads plan bytes (view x)
ChecksPlain view kind plan bytes (Err spot) = IsFirstFault kind plan bytes spot

-- the spot is what reading answers at a file of this kind
abbrev pub IsBroken : {A : Type 0} → FileKind → Result A Broken → Spot → Type 0
IsBroken kind expected spot = (spot.kind ≡ kind) × (expected ≡ Err (record { offset = spot.offset; rule = spot.rule }))

-- the fault is what reading answers at a file of this kind, or there was no memory
abbrev pub IsBrokenSo : {A : Type 0} → FileKind → Result A Broken → CodecFault → Type 0
IsBrokenSo kind expected (faults.Spot spot) = IsBroken kind expected spot
IsBrokenSo kind expected faults.OutOfMemory = Unit {0}

-- what a part of a check answers of what is expected at its place: the value, seen so, with the cursor behind it; or the fault, or that there was no memory
abbrev pub GivesIn : {X V : Type 0} → FileKind → (X → V) → Result (V × Cursor) Broken → Cursor → Result X CodecFault → Type 0
GivesIn kind view expected new (Ok x) = expected ≡ Ok (view x, new)
GivesIn kind view expected new (Err fault) = IsBrokenSo kind expected fault

-- the same of a part of a check that takes no memory
abbrev pub GivesInPlain : {X V : Type 0} → FileKind → (X → V) → Result (V × Cursor) Broken → Cursor → Result X Spot → Type 0
GivesInPlain kind view expected new (Ok x) = expected ≡ Ok (view x, new)
GivesInPlain kind view expected new (Err spot) = IsBroken kind expected spot
