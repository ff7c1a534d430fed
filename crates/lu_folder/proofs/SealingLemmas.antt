-- The last bytes of a pending commit, written over.
use Rattle.std.proofs.Common.{◌≡◌, ◌⊎◌, ℕ, zero, suc, ◌+◌, ◌-◌, ◌<◌, ◌≤◌, List, [], ◌∷◌, ◌++◌, take, drop, length, Option, Some, None, unwrap_or, IsSomeAnd, refl, sym, subst, ap, ◌∙◌, inl, inr, arith, length-take, length-drop, append-nil}
use Rattle.std.proofs.Math.Seq.{take-add}
use Rattle.std.proofs.lemmas.List.{take-append-drop, take_all, length-take-le, drop_all}
use Rattle.std.proofs.lemmas.Bool.{cases_lt}
use Rattle.std.specs.Option.{ForSome, option_map}
use Rattle.lu_dir.specs.Files.{Files, contents, with_file, with_patch, written_over, HasRange, PatchLeaves, prefix, Leaves}
use Rattle.lu_dir.proofs.TwoChanges.{with_file-same}
use Rattle.segment_infos.specs.Spelling.{pending}
use Rattle.segment_infos.proofs.WrittenCommits.{length-pending}
use Rattle.lu_folder.specs.Sealing.{SealLeaves}

-- but for the last byte the pending form is the final one
pub take-pending : (count : ℕ) (bytes : List ℕ) → count < length bytes → take count (pending bytes) ≡ take count bytes
take-pending zero bytes short = refl
take-pending (suc count) [] short = absurd (omega arith)
take-pending (suc count) (b ∷ []) short = absurd (omega arith)
take-pending (suc count) (b ∷ c ∷ rest) short = ap (λ (all : List ℕ). b ∷ all) (take-pending count (c ∷ rest) (omega arith))

-- so many of the last bytes are written over the pending form: the first of the final bytes, and then the pending ones
over : (bytes : List ℕ) (at many : ℕ) → at < length bytes → at + many ≤ length bytes → written_over at (take many (drop at bytes)) (pending bytes) ≡ take (at + many) bytes ++ drop (at + many) (pending bytes)
over bytes at many inside within =
    ap (λ (front : List ℕ). front ++ take many (drop at bytes) ++ drop (at + length (take many (drop at bytes))) (pending bytes)) (take-pending at bytes inside)
    ∙ ap (λ (n : ℕ). take at bytes ++ take many (drop at bytes) ++ drop (at + n) (pending bytes)) (length-take-le many (drop at bytes) (omega (arith, length-drop at bytes)))
    ∙ ap (λ (front : List ℕ). front ++ drop (at + many) (pending bytes)) (sym (take-add at many bytes))

patched : (name bytes : List ℕ) (at many : ℕ) (files : Files) → contents files name ≡ Some (pending bytes) → at < length bytes → at + many ≤ length bytes
    → with_patch name at (take many (drop at bytes)) files ≡ with_file name (take (at + many) bytes ++ drop (at + many) (pending bytes)) files
patched name bytes at many files is inside within =
    ap (λ (o : Option (List ℕ)). with_file name (written_over at (take many (drop at bytes)) (unwrap_or o [])) files) is
    ∙ ap (λ (all : List ℕ). with_file name all files) (over bytes at many inside within)

-- all of them
patched_whole : (name bytes : List ℕ) (at many : ℕ) (files : Files) → contents files name ≡ Some (pending bytes) → at < length bytes → at + many ≡ length bytes → with_patch name at (take many (drop at bytes)) files ≡ with_file name bytes files
patched_whole name bytes at many files is inside whole =
    patched name bytes at many files is inside (omega arith)
    ∙ ap (λ (all : List ℕ). with_file name all files)
    (ap (λ (front : List ℕ). front ++ drop (at + many) (pending bytes)) (take_all (at + many) bytes (omega arith))
    ∙ ap (λ (rest : List ℕ). bytes ++ rest) (drop_all (at + many) (pending bytes) (omega (arith, length-pending bytes)))
    ∙ append-nil bytes)

-- fewer
patched_partly : (name bytes : List ℕ) (at many : ℕ) (files : Files) → contents files name ≡ Some (pending bytes) → at + many < length bytes → with_patch name at (take many (drop at bytes)) files ≡ files
patched_partly name bytes at many files is short =
    patched name bytes at many files is (omega arith) (omega arith)
    ∙ ap (λ (all : List ℕ). with_file name all files)
    (ap (λ (front : List ℕ). front ++ drop (at + many) (pending bytes)) (sym (take-pending (at + many) bytes short)) ∙ take-append-drop (at + many) (pending bytes))
    ∙ with_file-same name (pending bytes) files is

-- the last bytes of a piece that is all that is left
last_bytes : (bytes : List ℕ) (at : ℕ) → take (length bytes - at) (drop at bytes) ≡ drop at bytes
last_bytes bytes at = take_all (length bytes - at) (drop at bytes) (omega (arith, length-drop at bytes))

module _ (name bytes : List ℕ) (many : ℕ) (some : 0 < many) (long : many ≤ length bytes) where
  -- the pending file has room for them
  pub room : (files : Files) → contents files name ≡ Some (pending bytes) → HasRange files name (length bytes - many) (length (take (length bytes - (length bytes - many)) (drop (length bytes - many) bytes)))
  room files is = subst (λ (o : Option (List ℕ)). IsSomeAnd o (λ held. length bytes - many + length (take (length bytes - (length bytes - many)) (drop (length bytes - many) bytes)) ≤ length held)) (sym is)
      (omega (arith, length-pending bytes, length-take (length bytes - (length bytes - many)) (drop (length bytes - many) bytes), length-drop (length bytes - many) bytes))

  -- they are written
  pub sealed-file : (files : Files) → contents files name ≡ Some (pending bytes) → with_patch name (length bytes - many) (take (length bytes - (length bytes - many)) (drop (length bytes - many) bytes)) files ≡ with_file name bytes files
  sealed-file files is = patched_whole name bytes (length bytes - many) (length bytes - (length bytes - many)) files is (omega arith) (omega arith)

  -- a prefix of them is written
  pub SealLeaves-patch : (old new : Files) → contents old name ≡ Some (pending bytes) → PatchLeaves name (length bytes - many) (take (length bytes - (length bytes - many)) (drop (length bytes - many) bytes)) old new → SealLeaves name bytes old new
  SealLeaves-patch old new is (prefix count made) = by_count (cases_lt count many)
    where
      made' : new ≡ with_patch name (length bytes - many) (take count (drop (length bytes - many) bytes)) old
      made' = made ∙ ap (λ (piece : List ℕ). with_patch name (length bytes - many) (take count piece) old) (last_bytes bytes (length bytes - many))

      by_count : (count < many) ⊎ (many ≤ count) → SealLeaves name bytes old new
      by_count (inr all) = inr (made'
          ∙ ap (λ (piece : List ℕ). with_patch name (length bytes - many) piece old)
          (take_all count (drop (length bytes - many) bytes) (omega (arith, length-drop (length bytes - many) bytes)) ∙ sym (take_all many (drop (length bytes - many) bytes) (omega (arith, length-drop (length bytes - many) bytes))))
          ∙ patched_whole name bytes (length bytes - many) many old is (omega arith) (omega arith))
      by_count (inl fewer) = inl (made' ∙ patched_partly name bytes (length bytes - many) count old is (omega arith))

  -- the write of the last bytes failed
  pub seal-failed : (old new : Option Files) → ForSome old (λ told. contents told name ≡ Some (pending bytes))
      → Leaves (PatchLeaves name (length bytes - many) (take (length bytes - (length bytes - many)) (drop (length bytes - many) bytes))) old new → Leaves (SealLeaves name bytes) old new
  seal-failed old new held left told is =
      let then : (now : Files) × (new ≡ Some now) × PatchLeaves name (length bytes - many) (take (length bytes - (length bytes - many)) (drop (length bytes - many) bytes)) told now = left told is in
      (then.0, then.1, SealLeaves-patch told then.0 (held told is) then.2)

  -- the last bytes are written
  pub seal-written : (old new : Option Files) → ForSome old (λ told. contents told name ≡ Some (pending bytes))
      → new ≡ option_map (with_patch name (length bytes - many) (take (length bytes - (length bytes - many)) (drop (length bytes - many) bytes))) old → new ≡ option_map (with_file name bytes) old
  seal-written None new held made = made
  seal-written (Some files) new held made = made ∙ ap Some (sealed-file files (held files refl))
