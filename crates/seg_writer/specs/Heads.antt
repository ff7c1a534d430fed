-- The heads of texts: numbers that tell most texts apart, and short texts whole.
use Rattle.std.specs.Prelude.{ℕ, ◌%◌, Bool, cond, List, [], ◌∷◌, length, slice_index_or, nat_lt}
use Rattle.std.specs.Int.{w64, from_be_bytes}

-- the byte at a place, 0 where the text has none
abbrev pub byte_at : List ℕ → ℕ → ℕ
byte_at text place = slice_index_or text place 0

-- how many bytes a text has, 8 where it has more than 7
abbrev pub told_length : List ℕ → ℕ
told_length text = cond (nat_lt (length text) 8) (length text) 8

-- the first seven bytes of a text, and how many it has
abbrev pub head_bytes : List ℕ → List ℕ
head_bytes text =
    byte_at text 0 ∷ byte_at text 1 ∷ byte_at text 2 ∷ byte_at text 3 ∷ byte_at text 4 ∷ byte_at text 5 ∷ byte_at text 6
    ∷ told_length text ∷ []

-- the head of a text: these as one number, the first byte the highest
unfoldable pub text_head : List ℕ → ℕ
text_head text = from_be_bytes w64 (head_bytes text)

-- whether a text with this head has no more bytes than the head tells
abbrev pub is_whole : ℕ → Bool
is_whole head = nat_lt (head % 256) 8
