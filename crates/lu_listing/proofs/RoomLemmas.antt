-- A room of which the first bytes are in use, and bytes that are written behind them.
use Rattle.std.proofs.Common.{◌≡◌, ℕ, ◌+◌, ◌≤◌, List, ◌++◌, length, take, drop, sym, ap, ◌∙◌, append_assoc}
use Rattle.std.proofs.lemmas.List.{take-append-drop, length-take-le}
use Rattle.std.proofs.Math.Seq.{take-append_seam, take-append-add}
use Rattle.lu_dir.specs.Files.{written_over}

-- bytes in the place of as many others
pub refill-same : (n : ℕ) (old new : List ℕ) → length new ≡ n → take n (new ++ drop (length new) old) ≡ new
refill-same n old new same = ap (λ (m : ℕ). take m (new ++ drop (length new) old)) (sym same) ∙ take-append_seam new (drop (length new) old)

module _ (room bytes : List ℕ) (used : ℕ) (within : used ≤ length room) where
  follow-first : (behind : List ℕ) → take (used + length bytes) (take used room ++ (bytes ++ behind)) ≡ take used room ++ bytes
  follow-first behind =
      ap (λ (n : ℕ). take (n + length bytes) (take used room ++ (bytes ++ behind))) (sym (length-take-le used room within))
      ∙ take-append-add (take used room) (bytes ++ behind) (length bytes)
      ∙ ap (λ (t : List ℕ). take used room ++ t) (take-append_seam bytes behind)

  -- bytes that are written over the others follow those in use
  pub follow-written : take (used + length bytes) (written_over used bytes room) ≡ take used room ++ bytes
  follow-written = ap (take (used + length bytes)) (append_assoc (take used room) bytes (drop (used + length bytes) room)) ∙ follow-first (drop (used + length bytes) room)

  -- also where they are known from there on, and what is before stayed
  pub follow-kept : (new behind : List ℕ) → take used new ≡ take used room → drop used new ≡ bytes ++ behind → take (used + length bytes) new ≡ take used room ++ bytes
  follow-kept new behind before is =
      ap (take (used + length bytes)) (sym (take-append-drop used new) ∙ ap (λ (t : List ℕ). t ++ drop used new) before ∙ ap (λ (t : List ℕ). take used room ++ t) is)
      ∙ follow-first behind
