-- What packing answers.
use Rattle.std.specs.Prelude.{◌≡◌, ℕ, ◌≤◌, ◌<◌, List, length, Option, Some, None, Result, Ok, Err}
use Rattle.compound_file.specs.declared.packing.PackFault.{PackFault}
use Rattle.compound_file.specs.declared.packing.PackFault.TheVariants.{TooLarge, OutOfMemory}
use Rattle.compound_file.specs.declared.packing.Packed.{Packed}
use Rattle.compound_file.specs.Entries.{NamedPart}

-- these bytes, seen so, where they do not pass the limit; that they pass it; or that there was no memory
abbrev pub Packs : {X : Type 0} → (X → List ℕ) → List ℕ → ℕ → Result X PackFault → Type 0
Packs view bytes limit (Ok x) = (view x ≡ bytes) × (length bytes ≤ limit)
Packs view bytes limit (Err TooLarge) = limit < length bytes
Packs view bytes limit (Err OutOfMemory) = Unit {0}

-- a part that is to be packed, as contracts see it
abbrev pub part_of : Packed → NamedPart
part_of p = record { name = p.name; bytes = p.bytes.now }

-- the size, where it is at most the limit, and none where it is more
abbrev pub SizeWithin : ℕ → ℕ → Option ℕ → Type 0
SizeWithin size limit None = limit < size
SizeWithin size limit (Some n) = (n ≡ size) × (n ≤ limit)
