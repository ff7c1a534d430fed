-- The stores that segments may share: stored documents, and vectors (format page, "Stored documents", "Term vectors").
use Rattle.std.specs.Prelude.{ℕ, List, take, drop}
use Rattle.lu_types.specs.declared.stored.Window.{Window}

-- the bytes of the header of each file of a store: its format number
abbrev pub header_length : ℕ
header_length = 4

-- the greatest place in a file of a store, and the greatest position and offset in a vector: 2^31 - 1
abbrev pub greatest_place : ℕ
greatest_place = 2147483647

-- all documents of a store of so many
abbrev pub whole_store : ℕ → Window
whole_store total = record { offset = 0; count = total }

-- those of the documents that the window has
abbrev pub windowed : {A : Type 0} → Window → List A → List A
windowed window all = take window.count (drop window.offset all)
