-- What a call that reads answers.
use Rattle.std.specs.Prelude.{◌≡◌, Result, Ok, Err}
use Rattle.lu_grammar.specs.Bytes.{Cursor}

-- a call answers what is expected at its place: the value, seen so, with the cursor moved behind it; or the error
abbrev pub Gives : {X R E : Type 0} → (X → R) → Result (R × Cursor) E → Cursor → Result X E → Type 0
Gives view expected new (Ok x) = expected ≡ Ok (view x, new)
Gives view expected new (Err e) = expected ≡ Err e
