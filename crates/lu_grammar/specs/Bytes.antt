-- Bytes, and a place in them.
use Rattle.std.specs.Prelude.{ℕ, ◌+◌, ◌<◌, List, [], length, drop, slice_index}

-- each is a byte
abbrev pub IsBytes : List ℕ → Type 0
IsBytes bytes = (i : ℕ) → slice_index bytes i < 256

-- a place in a file, and the bytes from there on
pub record Cursor : Type 0 where
  pub place : ℕ
  pub rest : List ℕ

-- before the first byte
abbrev pub start_of : List ℕ → Cursor
start_of bytes = record { place = 0; rest = bytes }

-- after the last byte
abbrev pub end_of : List ℕ → Cursor
end_of bytes = record { place = length bytes; rest = [] }

-- the place that so many bytes stand before
abbrev pub place_in : List ℕ → ℕ → Cursor
place_in bytes place = record { place = place; rest = drop place bytes }

-- so many bytes further
abbrev pub moved : ℕ → Cursor → Cursor
moved n c = record { place = c.place + n; rest = drop n c.rest }
