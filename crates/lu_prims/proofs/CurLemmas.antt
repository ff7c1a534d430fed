-- A cursor that moves.
use Rattle.std.proofs.Common.{◌≡◌, ℕ, ◌+◌, ◌≤◌, true, false, ltb, List, length, take, drop, Result, Ok, Err, refl, sym, ap, ◌∙◌}
use Rattle.std.proofs.lemmas.List.{drop-drop}
use Rattle.std.specs.Str.{IsUtf8, is_utf8}
use Rattle.std.proofs.lemmas.Bool.{le-ltb, false_from_ne_true}
use Rattle.std.proofs.lemmas.Str.{IsUtf8-from_is_utf8, is_utf8-from_IsUtf8}
use Rattle.lu_grammar.specs.declared.bad.Bad.{Bad}
use Rattle.lu_grammar.specs.declared.bad.Bad.TheVariants.{NotUtf8}
use Rattle.lu_grammar.specs.Bytes.{Cursor, moved}
use Rattle.lu_grammar.specs.Parts.{Part, Value}
use Rattle.lu_grammar.specs.Reading.{◌>>=◌, read, read_utf8, read_part}

-- the cursor at a place in some bytes
abbrev pub cursor_at : List ℕ → ℕ → Cursor
cursor_at bytes place = record { place = place; rest = drop place bytes }

-- moving on is standing at a later place
pub moved-cursor_at : (bytes : List ℕ) (place n : ℕ) → cursor_at bytes (place + n) ≡ moved n (cursor_at bytes place)
moved-cursor_at bytes place n = ap (λ (rest : List ℕ). at (place + n) rest) (sym (drop-drop n place bytes))
  where
    at : ℕ → List ℕ → Cursor
    at p rest = record { place = p; rest = rest }

-- what begins the bytes at a place is taken there
pub read_part-front : (p : Part) (c d : Cursor) (v : Value p) (n : ℕ) → read p c.rest ≡ Ok (v, n) → d ≡ moved n c → read_part p c ≡ Ok (v, d)
read_part-front p c d v n front is =
    ap (λ (r : Result (Value p × ℕ) Bad). r >>= λ x. Ok (x.0, moved x.1 c)) front ∙ ap (λ (e : Cursor). Ok (v, e)) (sym is)

-- and what does not is not
pub read_part-none : (p : Part) (c : Cursor) (bad : Bad) → read p c.rest ≡ Err bad → read_part p c ≡ Err bad
read_part-none p c bad none = ap (λ (r : Result (Value p × ℕ) Bad). r >>= λ x. Ok (x.0, moved x.1 c)) none

-- the front of the bytes is a text, or is none
pub read_utf8-text : (n : ℕ) (bs found : List ℕ) → n ≤ length bs → IsUtf8 (take n bs) → found ≡ take n bs → read_utf8 n bs ≡ Ok (found, n)
read_utf8-text n bs found le valid is =
    let long : ltb (length bs) n ≡ false = le-ltb (length bs) n le in
    let yes : is_utf8 (take n bs) ≡ true = is_utf8-from_IsUtf8 (take n bs) valid in
    rw (long, yes, is) refl

pub read_utf8-none : (n : ℕ) (bs : List ℕ) → n ≤ length bs → (IsUtf8 (take n bs) → ⊥) → read_utf8 n bs ≡ Err NotUtf8
read_utf8-none n bs le not_valid =
    let long : ltb (length bs) n ≡ false = le-ltb (length bs) n le in
    let no : is_utf8 (take n bs) ≡ false = false_from_ne_true (is_utf8 (take n bs)) (λ t. not_valid (IsUtf8-from_is_utf8 (take n bs) t)) in
    rw (long, no) refl

pub ruleset taking = (read_part-front, read_part-none, moved-cursor_at)
