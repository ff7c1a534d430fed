-- What a reading call answers of a cursor, or of the bytes there.
use Rattle.std.specs.Prelude.{◌≡◌, ◌≤◌, ℕ, List, length, Result, Ok, Err}
use Rattle.lu_grammar.specs.declared.bad.Bad.{Bad}
use Rattle.lu_grammar.specs.Bytes.{Cursor}
use Rattle.lu_grammar.specs.Parts.{Part, Value}
use Rattle.lu_grammar.specs.Reading.{read, read_part}

-- the value, seen as the part's, stood at the old place and the new one is behind it; or nothing did, and the place is as before
abbrev pub Takes : {X : Type 0} (p : Part) → (X → Value p) → Cursor → Cursor → Result X Bad → Type 0
Takes p view old new (Ok x) = read_part p old ≡ Ok (view x, new)
Takes p view old new (Err bad) = (read_part p old ≡ Err bad) × (new ≡ old)

-- the value, seen as the part's, begins the bytes and takes so many of them; or nothing does
abbrev pub Begins : {X : Type 0} (p : Part) → (X → Value p) → List ℕ → Result (X × ℕ) Bad → Type 0
Begins p view bytes (Ok x) = (read p bytes ≡ Ok (view x.0, x.1)) × (x.1 ≤ length bytes)
Begins p view bytes (Err bad) = read p bytes ≡ Err bad
