-- Bytes that a sink took one piece after another.
use Rattle.std.proofs.Common.{◌≡◌, ℕ, ◌+◌, List, [], ◌++◌, take, drop, Option, Some, None, refl, sym, ap, ◌∙◌, append_assoc, append-nil}
use Rattle.std.proofs.Math.Seq.{take-add}
use Rattle.lu_dir.specs.Streams.{with_taken}

-- a piece after a piece
pub with_taken-with_taken : (more bytes : List ℕ) (taken : Option (List ℕ)) → with_taken more (with_taken bytes taken) ≡ with_taken (bytes ++ more) taken
with_taken-with_taken more bytes None = refl
with_taken-with_taken more bytes (Some before) = ap Some (append_assoc before bytes more)

-- no bytes
pub with_taken-none : (taken : Option (List ℕ)) → with_taken [] taken ≡ taken
with_taken-none None = refl
with_taken-none (Some before) = ap Some (append-nil before)

-- the next of the bytes after those that were taken
pub with_taken-take : (at count : ℕ) (bytes : List ℕ) (before between after : Option (List ℕ)) → between ≡ with_taken (take at bytes) before → after ≡ with_taken (take count (drop at bytes)) between → after ≡ with_taken (take (at + count) bytes) before
with_taken-take at count bytes before between after first second =
    second
    ∙ ap (with_taken (take count (drop at bytes))) first
    ∙ with_taken-with_taken (take count (drop at bytes)) (take at bytes) before
    ∙ ap (λ (all : List ℕ). with_taken all before) (sym (take-add at count bytes))
