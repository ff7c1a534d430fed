-- What parts of the checks answer.
use Rattle.std.specs.Prelude.{◌≡◌, ℕ, Result, Ok, Err}
use Rattle.lu_grammar.specs.Bytes.{Cursor}
use Rattle.lu_grammar.specs.Plans.{Broken}
use Rattle.lu_types.specs.declared.kind.FileKind.{FileKind}
use Rattle.lu_types.specs.declared.fault.Spot.{Spot}
use Rattle.lu_types.specs.declared.fault.CodecFault.{CodecFault}
use Rattle.lu_types.specs.Judging.{IsBroken, IsBrokenSo}

-- what a call makes of the record that is expected at its place, with the cursor moved behind it; or the rule that is broken there
abbrev pub Makes : {X Y R : Type 0} → (X → Y) → (R → Y) → Result (R × Cursor) ℕ → Cursor → Result X ℕ → Type 0
Makes {X} {Y} {R} view make expected new (Ok x) = (r : R) × (expected ≡ Ok (r, new)) × (view x ≡ make r)
Makes view make expected new (Err rule) = expected ≡ Err rule

-- what is expected at a place of a file of this kind is there, and the cursor moved behind it; or its fault
abbrev pub PassesPlain : {V : Type 0} → FileKind → Result (V × Cursor) Broken → Cursor → Result (Unit {0}) Spot → Type 0
PassesPlain {V} kind expected new (Ok done) = (v : V) × (expected ≡ Ok (v, new))
PassesPlain kind expected new (Err spot) = IsBroken kind expected spot

-- the same of a call that may find no memory
abbrev pub PassesIn : {V : Type 0} → FileKind → Result (V × Cursor) Broken → Cursor → Result (Unit {0}) CodecFault → Type 0
PassesIn {V} kind expected new (Ok done) = (v : V) × (expected ≡ Ok (v, new))
PassesIn kind expected new (Err fault) = IsBrokenSo kind expected fault
