-- What calls answer that take memory.
use Rattle.std.specs.Prelude.{◌≡◌, Result, Ok, Err}
use Rattle.lu_grammar.specs.Bytes.{Cursor}
use Rattle.segment_infos.specs.declared.stop.Stop.{Stop}
use Rattle.segment_infos.specs.declared.stop.Stop.TheVariants as stops

-- what is expected, seen so, with the cursor moved behind it; or what is expected to be wrong; want of memory says nothing
abbrev pub GivesOr : {X R E : Type 0} → (X → R) → Result (R × Cursor) E → Cursor → Result X (Stop E) → Type 0
GivesOr view expected new (Ok x) = expected ≡ Ok (view x, new)
GivesOr view expected new (Err (stops.Wrong e)) = expected ≡ Err e
GivesOr view expected new (Err stops.OutOfMemory) = Unit {0}
