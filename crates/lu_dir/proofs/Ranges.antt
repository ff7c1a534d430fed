-- Ranges of a file that are read one after another.
use Rattle.std.proofs.Common.{◌≡◌, ℕ, ◌+◌, ◌≤◌, List, [], ◌++◌, take, drop, length, length-take, length-drop, ◌-◌, Some, None, sym, ap, ◌∙◌, arith, unwrap_or, IsSomeAnd}
use Rattle.std.proofs.Math.Seq.{take-add}
use Rattle.std.proofs.lemmas.Slice.{take-put_mid}
use borrow.Rule.Slice.PartMut.{put_mid}
use Rattle.lu_dir.specs.Files.{Files, contents, range_of, HasRange}

-- the first bytes of a file and the next ones are its first bytes
pub range_of-add : (told : Files) (name : List ℕ) (at count : ℕ) → range_of told name 0 at ++ range_of told name at count ≡ range_of told name 0 (at + count)
range_of-add told name at count = sym (take-add at count (unwrap_or (contents told name) []))

-- a part of a range that a file has
pub HasRange-part : (told : Files) (name : List ℕ) (at count whole : ℕ) → at + count ≤ whole → HasRange told name 0 whole → HasRange told name at count
HasRange-part told name at count whole within =
    elim (contents told name) as (λ there. IsSomeAnd there (λ bytes. 0 + whole ≤ length bytes) → IsSomeAnd there (λ bytes. at + count ≤ length bytes))
    [ None ↦ λ range. range | Some bytes ↦ λ range. omega arith ]

-- the first bytes of a file stand in a buffer, and the next piece was read behind them
pub range_of-read : (told : Files) (name : List ℕ) (at count : ℕ) (bytes piece : List ℕ) → at + count ≤ length bytes → length piece ≡ length (take (at + count - at) (drop at bytes)) → take at bytes ≡ range_of told name 0 at
    → piece ≡ range_of told name at (length (take (at + count - at) (drop at bytes))) → take (at + count) (put_mid at (at + count - at) bytes piece) ≡ range_of told name 0 (at + count)
range_of-read told name at count bytes piece within same before read =
    let size : length (take (at + count - at) (drop at bytes)) ≡ count = omega (arith, length-take (at + count - at) (drop at bytes), length-drop at bytes) in
    take-put_mid at (at + count - at) bytes piece (at + count) (omega (arith, same, size)) (omega arith)
    ∙ ap (λ (front : List ℕ). front ++ piece) before
    ∙ ap (λ (next : List ℕ). range_of told name 0 at ++ next) (read ∙ ap (range_of told name at) size)
    ∙ range_of-add told name at count
