-- Bytes that are moved out of an input one piece after another.
use Rattle.std.proofs.Common.{◌≡◌, ℕ, ◌+◌, ◌≤◌, ◌<◌, List, [], ◌++◌, take, drop, length, Option, Some, drop-drop, sym, ap, ◌∙◌, arith, length-take, length-drop, length-append, append-nil}
use Rattle.std.proofs.Math.Seq.{take-add}
use Rattle.std.proofs.lemmas.List.{take-append-drop, take_at, length-take-le}
use Rattle.lu_dir.specs.Streams.{Moves}

-- so many bytes are read: as many as there are, at most
read-within : (bytes left : List ℕ) → bytes ≡ take (length bytes) left → length bytes ≤ length left
read-within bytes left read = omega (arith, ap length read, length-take (length bytes) left)

-- nothing more is left: all was read
pub Moves-end : (bytes left before after : List ℕ) (count : ℕ) → bytes ≡ take (length bytes) left → 0 < length before → count ≡ 0 → Moves count (drop (length bytes) left) before after → bytes ≡ left
Moves-end bytes left before after count read room none moves =
    read ∙ sym (append-nil (take (length bytes) left)) ∙ ap (λ (rest : List ℕ). take (length bytes) left ++ rest) (sym (moves.ended none room)) ∙ take-append-drop (length bytes) left

-- nothing is left of the rest
pub Moves-rest : (bytes left before after : List ℕ) (count : ℕ) → 0 < length before → count ≡ 0 → Moves count (drop (length bytes) left) before after → drop count (drop (length bytes) left) ≡ []
Moves-rest bytes left before after count room none moves = ap (λ (many : ℕ). drop many (drop (length bytes) left)) none ∙ moves.ended none room

-- there were as many bytes as were read
pub Moves-count : (bytes left before after : List ℕ) (count : ℕ) → bytes ≡ take (length bytes) left → Moves count (drop (length bytes) left) before after → length bytes + count ≤ length left
Moves-count bytes left before after count read moves = omega (arith, moves.within, length-drop (length bytes) left, read-within bytes left read)

-- one piece more was read
Moves-more : (bytes left before after : List ℕ) (count : ℕ) → bytes ≡ take (length bytes) left → Moves count (drop (length bytes) left) before after → bytes ++ take count after ≡ take (length bytes + count) left
Moves-more bytes left before after count read moves =
    ap (λ (piece : List ℕ). bytes ++ piece) (ap (take count) moves.filled ∙ take_at (take count (drop (length bytes) left)) (drop count before) count (length-take-le count (drop (length bytes) left) moves.within))
    ∙ ap (λ (front : List ℕ). front ++ take count (drop (length bytes) left)) read
    ∙ sym (take-add (length bytes) count left)

-- what is left after one piece more
pub left-more : (bytes new left : List ℕ) (count : ℕ) (now : Option (List ℕ)) → length new ≡ length bytes + count → now ≡ Some (drop count (drop (length bytes) left)) → now ≡ Some (drop (length new) left)
left-more bytes new left count now size is = is ∙ ap Some (drop-drop count (length bytes) left ∙ ap (λ (many : ℕ). drop many left) (sym size))

-- what was read after one piece more
pub read-more : (bytes new left before after : List ℕ) (count : ℕ) → length new ≡ length bytes + count → new ≡ bytes ++ take count after → bytes ≡ take (length bytes) left → Moves count (drop (length bytes) left) before after → new ≡ take (length new) left
read-more bytes new left before after count size is read moves = is ∙ Moves-more bytes left before after count read moves ∙ ap (λ (many : ℕ). take many left) (sym size)

-- how many bytes there are after one piece more
pub size-more : (bytes new after : List ℕ) (count : ℕ) → new ≡ bytes ++ take count after → count ≤ length after → length new ≡ length bytes + count
size-more bytes new after count is fits = ap length is ∙ length-append bytes (take count after) ∙ ap (λ (many : ℕ). length bytes + many) (length-take-le count after fits)
