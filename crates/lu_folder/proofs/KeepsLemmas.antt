-- What a call that makes a commit keeps, whatever it answers, and what its calls leave one after another.
use Rattle.std.proofs.Common.{◌≡◌, ◌⊎◌, ℕ, ◌+◌, ◌≤◌, List, [], ◌∷◌, ◌++◌, length, Option, Some, None, pos, Result, Ok, Err, OnOk, OnErr, refl, sym, subst, ap, ◌∙◌, inl, inr, arith, length-append}
use Rattle.std.specs.Option.{ForSome, option_map}
use Rattle.lu_grammar.specs.Parts.{int64, spelling}
use Rattle.lu_prims.specs.Checksum.{checksum}
use Rattle.lu_dir.specs.Files.{Files, contents, with_file, Leaves}
use Rattle.lu_dir.specs.declared.fail.DirFail.{DirFail}
use Rattle.lu_dir.proofs.Contents.{contents-with_file-same}
use Rattle.lu_dir.proofs.Told.{changed-changed}
use Rattle.lu_dir.proofs.TwoChanges.{with_file-with_file}
use Rattle.segment_infos.specs.LuceneNames.{IsGenerationNumber}
use Rattle.segment_infos.specs.Spelling.{commit_bytes, pending, unsealed_bytes}
use Rattle.segment_infos.specs.Values.{CommitValue, IsCommit}
use Rattle.segment_infos.proofs.WrittenCommits.{commit-reads}
use Rattle.lu_folder.specs.ChangeValues.{ChangeValue, commit_name}
use Rattle.lu_folder.specs.Writing.{with_new_files, WritesOnly}
use Rattle.lu_folder.specs.Sealing.{SealLeaves}
use Rattle.lu_folder.specs.Changes.{pending_file, written, sealed, IsMade, IsStopped}
use Rattle.lu_folder.specs.Keeping.{IsFreshChange, IsOld, IsNew, AreKept, AddsOnly, Keeps}
use Rattle.lu_folder.proofs.WritingLemmas.{with_new_files-append, WritesOnly-made}
use Rattle.lu_folder.proofs.SweepingLemmas.{RemovesOnly-none}
use Rattle.lu_folder.proofs.UnmadeLemmas.{unmade-kept, unmade-adds, unmade-old}
use Rattle.lu_folder.proofs.MadeLemmas.{sealed-kept, sealed-adds, made-adds, made-new}

-- a commit has its checksum of eight bytes
pub length-commit_bytes : (commit : CommitValue) → 8 ≤ length (commit_bytes commit)
length-commit_bytes commit = omega (arith, length-append (unsealed_bytes commit) (spelling int64 (pos (checksum (unsealed_bytes commit)))))

module _ (change : ChangeValue) (old : Files) (valid : IsGenerationNumber change.generation) (good : IsCommit change.commit) (fresh : IsFreshChange change old) where
  -- a commit that was made
  pub made-keeps : (new : Files) → IsMade change old new → AddsOnly change old new × IsNew change old new
  made-keeps new made = (made-adds change old valid fresh new made, made-new change old valid fresh new made (commit-reads change.commit good))

  -- a commit that was stopped
  pub stopped-keeps : (new : Files) → IsStopped change old new → AddsOnly change old new × AreKept old new × (IsOld old new ⊎ IsNew change old new)
  stopped-keeps new (inl unmade) = (unmade-adds change old valid fresh new unmade, unmade-kept change old valid fresh new unmade, inl (unmade-old change old valid fresh new unmade (commit-reads change.commit good)))
  stopped-keeps new (inr is) =
      subst (λ (files : Files). AddsOnly change old files × AreKept old files × (IsOld old files ⊎ IsNew change old files)) (sym is)
      (sealed-adds change old valid fresh, sealed-kept change old valid fresh, inr (made-new change old valid fresh (sealed change old) (RemovesOnly-none change.removable (sealed change old)) (commit-reads change.commit good)))

-- whatever is answered
pub Keeps-answer : (change : ChangeValue) (answer : Result (Option DirFail) DirFail) (old new : Option Files) → IsGenerationNumber change.generation → IsCommit change.commit → ForSome old (λ told. IsFreshChange change told)
    → OnOk answer (Leaves (IsMade change) old new) → OnErr answer (Leaves (IsStopped change) old new) → Leaves (λ before after. Keeps change answer before after) old new
Keeps-answer change (Ok behind) old new valid good fresh made stopped told is =
    let then : (now : Files) × (new ≡ Some now) × IsMade change told now = made told is in
    (then.0, then.1, made-keeps change told valid good (fresh told is) then.0 then.2)
Keeps-answer change (Err fail) old new valid good fresh made stopped told is =
    let then : (now : Files) × (new ≡ Some now) × IsStopped change told now = stopped told is in
    (then.0, then.1, stopped-keeps change told valid good (fresh told is) then.0 then.2)

-- the pending file is whole where all was written
written-pending : (change : ChangeValue) (files : Files) → contents (with_new_files (written change) files) (commit_name change.generation) ≡ Some (pending (commit_bytes change.commit))
written-pending change files =
    ap (λ (all : Files). contents all (commit_name change.generation)) (with_new_files-append change.files (pending_file change ∷ []) files)
    ∙ contents-with_file-same (commit_name change.generation) (pending (commit_bytes change.commit)) (with_new_files change.files files)

-- what is sealed after all was written
written-sealed : (change : ChangeValue) (files : Files) → with_file (commit_name change.generation) (commit_bytes change.commit) (with_new_files (written change) files) ≡ sealed change files
written-sealed change files =
    ap (λ (all : Files). with_file (commit_name change.generation) (commit_bytes change.commit) all) (with_new_files-append change.files (pending_file change ∷ []) files)
    ∙ with_file-with_file (commit_name change.generation) (pending (commit_bytes change.commit)) (commit_bytes change.commit) (with_new_files change.files files)

-- what a failed seal leaves after all was written
pub SealLeaves-stopped : (change : ChangeValue) (old new : Files) → SealLeaves (commit_name change.generation) (commit_bytes change.commit) (with_new_files (written change) old) new → IsStopped change old new
SealLeaves-stopped change old new (inl same) = inl (subst (λ (files : Files). WritesOnly (written change) old files) (sym same) (WritesOnly-made (written change) old))
SealLeaves-stopped change old new (inr is) = inr (is ∙ written-sealed change old)

-- where the folder tells its files, the pending file is whole where all was written
pub pending-there : (change : ChangeValue) (name bytes : List ℕ) (first mid : Option Files) → name ≡ commit_name change.generation → bytes ≡ commit_bytes change.commit → mid ≡ option_map (with_new_files (written change)) first
    → ForSome mid (λ told. contents told name ≡ Some (pending bytes))
pending-there change name bytes None mid named held written_all told is = absurd (none_told (sym written_all ∙ is))
  where
    none_told : {A : Type 0} {x : A} → None ≡ Some x → ⊥
    none_told e = cc
pending-there change name bytes (Some files) mid named held written_all told is =
    let same : told ≡ with_new_files (written change) files = some_same (sym is ∙ written_all) in
    ap (λ (all : Files). contents all name) same ∙ ap (contents (with_new_files (written change) files)) named ∙ written-pending change files ∙ ap (λ (b : List ℕ). Some (pending b)) (sym held)
  where
    some_same : {x y : Files} → Some x ≡ Some y → x ≡ y
    some_same e = cc

-- the folder after the seal
pub sealed-all : (change : ChangeValue) (name bytes : List ℕ) (first mid after : Option Files) → name ≡ commit_name change.generation → bytes ≡ commit_bytes change.commit → mid ≡ option_map (with_new_files (written change)) first → after ≡ option_map (with_file name bytes) mid
    → after ≡ option_map (sealed change) first
sealed-all change name bytes first mid after named held written_all is =
    changed-changed (with_new_files (written change)) (with_file name bytes) (sealed change) first mid after written_all is
    (λ files. ap (λ (n : List ℕ). with_file n bytes (with_new_files (written change) files)) named ∙ ap (λ (b : List ℕ). with_file (commit_name change.generation) b (with_new_files (written change) files)) held ∙ written-sealed change files)
