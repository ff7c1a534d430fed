-- Two changes of one file.
use Rattle.std.proofs.Common.{◌≡◌, ◌⊎◌, ℕ, List, [], take, Bool, true, false, cond, Option, Some, None, refl, sym, ap, ◌∙◌, inl, inr, unwrap_or}
use Rattle.std.specs.Str.{bytes_eq}
use Rattle.std.proofs.lemmas.Slice.Eq.{bytes_eq-Decides}
use Rattle.lu_dir.specs.Files.{Files, contents, with_file, without_file, with_patch, written_over, CreateLeaves, PatchLeaves, RemoveLeaves, before, absent, prefix}
use Rattle.lu_dir.proofs.Contents.{contents-with_file, contents-with_file-same, contents-without_file, same_files}

-- a file that is made as it was changes nothing
pub with_file-same : (name bytes : List ℕ) (files : Files) → contents files name ≡ Some bytes → with_file name bytes files ≡ files
with_file-same name bytes files is =
    same_files (with_file name bytes files) files
    (λ asked. contents-with_file name bytes files asked ∙ same_at (bytes_eq asked name) (Some bytes) (contents files asked) (λ same. sym is ∙ ap (contents files) (sym ((bytes_eq-Decides asked name).0 same))))
  where
    same_at : (same : Bool) (new old : Option (List ℕ)) → (same ≡ true → new ≡ old) → cond same new old ≡ old
    same_at true new old is = is refl
    same_at false new old is = refl

cond-cond : (same : Bool) (new between old : Option (List ℕ)) → cond same new (cond same between old) ≡ cond same new old
cond-cond true new between old = refl
cond-cond false new between old = refl

-- a file that is made twice is as it is made the second time
pub with_file-with_file : (name first second : List ℕ) (files : Files) → with_file name second (with_file name first files) ≡ with_file name second files
with_file-with_file name first second files = same_files (with_file name second (with_file name first files)) (with_file name second files) (λ asked.
    contents-with_file name second (with_file name first files) asked
    ∙ ap (cond (bytes_eq asked name) (Some second)) (contents-with_file name first files asked)
    ∙ cond-cond (bytes_eq asked name) (Some second) (Some first) (contents files asked)
    ∙ sym (contents-with_file name second files asked))

-- one that is removed and made is as it is made
pub with_file-without_file : (name bytes : List ℕ) (files : Files) → with_file name bytes (without_file name files) ≡ with_file name bytes files
with_file-without_file name bytes files = same_files (with_file name bytes (without_file name files)) (with_file name bytes files) (λ asked.
    contents-with_file name bytes (without_file name files) asked
    ∙ ap (cond (bytes_eq asked name) (Some bytes)) (contents-without_file name files asked)
    ∙ cond-cond (bytes_eq asked name) (Some bytes) None (contents files asked)
    ∙ sym (contents-with_file name bytes files asked))

-- one that is made and removed is not there
pub without_file-with_file : (name bytes : List ℕ) (files : Files) → without_file name (with_file name bytes files) ≡ without_file name files
without_file-with_file name bytes files = same_files (without_file name (with_file name bytes files)) (without_file name files) (λ asked.
    contents-without_file name (with_file name bytes files) asked
    ∙ ap (cond (bytes_eq asked name) None) (contents-with_file name bytes files asked)
    ∙ cond-cond (bytes_eq asked name) None (Some bytes) (contents files asked)
    ∙ sym (contents-without_file name files asked))

-- and so is one that is removed twice
pub without_file-without_file : (name : List ℕ) (files : Files) → without_file name (without_file name files) ≡ without_file name files
without_file-without_file name files = same_files (without_file name (without_file name files)) (without_file name files) (λ asked.
    contents-without_file name (without_file name files) asked
    ∙ ap (cond (bytes_eq asked name) None) (contents-without_file name files asked)
    ∙ cond-cond (bytes_eq asked name) None None (contents files asked)
    ∙ sym (contents-without_file name files asked))

-- one that is made, and then written inside, is as it is made with these bytes
pub with_patch-with_file : (name : List ℕ) (at : ℕ) (piece bytes : List ℕ) (files : Files) → with_patch name at piece (with_file name bytes files) ≡ with_file name (written_over at piece bytes) files
with_patch-with_file name at piece bytes files =
    ap (λ (there : Option (List ℕ)). with_file name (written_over at piece (unwrap_or there [])) (with_file name bytes files)) (contents-with_file-same name bytes files)
    ∙ with_file-with_file name bytes (written_over at piece bytes) files

-- what a failed `create` leaves of a file that was made
pub CreateLeaves-with_file : (name first second : List ℕ) (files new : Files) → CreateLeaves name second (with_file name first files) new → (new ≡ with_file name first files) ⊎ CreateLeaves name second files new
CreateLeaves-with_file name first second files new (before same) = inl same
CreateLeaves-with_file name first second files new (absent gone) = inr (absent (gone ∙ without_file-with_file name first files))
CreateLeaves-with_file name first second files new (prefix count made) = inr (prefix count (made ∙ with_file-with_file name first (take count second) files))

-- what a failed `patch` leaves of it
pub PatchLeaves-with_file : (name : List ℕ) (at : ℕ) (piece bytes : List ℕ) (files new : Files) → PatchLeaves name at piece (with_file name bytes files) new → (count : ℕ) × (new ≡ with_file name (written_over at (take count piece) bytes) files)
PatchLeaves-with_file name at piece bytes files new (prefix count made) = (count, made ∙ with_patch-with_file name at (take count piece) bytes files)

-- what a failed `remove` leaves of it
pub RemoveLeaves-with_file : (name bytes : List ℕ) (files new : Files) → RemoveLeaves name (with_file name bytes files) new → (new ≡ with_file name bytes files) ⊎ (new ≡ without_file name files)
RemoveLeaves-with_file name bytes files new (before same) = inl same
RemoveLeaves-with_file name bytes files new (absent gone) = inr (gone ∙ without_file-with_file name bytes files)
