-- What is due of files that were loaded and opened.
use Rattle.std.proofs.Common.{◌≡◌, ℕ, ◌≤◌, ◌<◌, List, length, All, Option, Some, None, refl, sym, subst, inl, inr, arith}
use Rattle.std.specs.Prelude.{◌^◌, slice_get, IfSome}
use Rattle.lu_dir.specs.Files.{Files}
use Rattle.lu_types.specs.FilePlans.{FilePlan, StandFor}
use Rattle.lu_types.specs.declared.kind.FileKind.{FileKind}
use Rattle.lu_outcomes.specs.declared.outcome.Outcome.{Outcome}
use Rattle.lu_reads.specs.Files.{AreFound}
use Rattle.lu_outcomes.specs.Outcomes.{printing}
use Rattle.lu_reads.specs.FilesDue.{IsFaultIn, FilesSay, FieldsSay, DocsSay, FilesDue}
use Rattle.lu_dir.specs.Loading.{IsLoadable}
use Rattle.lu_folder.specs.Limits.{file_limit}
use Rattle.lu_listing.specs.Lines.{field_lines, doc_lines}
use Rattle.check_index.specs.Files.{file_at}
use Rattle.lu_reads.specs.Needs.{table_files, document_files}
use Rattle.lu_reads.proofs.FilesSayLemmas.{file_at-loadable}
use Rattle.lu_reads.proofs.LoadLemmas.{file_at-found}

module _ {X : Type 0} (segment : List ℕ) (kinds : List FileKind) (files : FilePlan X) (lines : X → List ℕ) (told : Option Files) (found : List (Option (List ℕ))) (are : AreFound told segment kinds found) (Say : List (Option (List ℕ)) → Outcome → Type 0) (says : (outcome : Outcome) → FilesSay segment files lines outcome → Say found outcome) where
  -- the lines of what they stand for are due
  pub due-lines : (x : X) → StandFor files x → FilesDue segment kinds Say told (printing (lines x))
  due-lines x stand = inr (found, are, says (printing (lines x)) (inl (x, stand, refl)))

  -- or their first fault is
  pub due-fault : (outcome : Outcome) → IsFaultIn segment files outcome → FilesDue segment kinds Say told outcome
  due-fault outcome fault = inr (found, are, says outcome (inr fault))

-- what a command comes to by a field table that was found
pub table-found : (segment : List ℕ) (found : List (Option (List ℕ))) (fnm : Option (List ℕ)) → slice_get found 0 ≡ Some fnm → (outcome : Outcome) → FilesSay segment (table_files fnm) (field_lines 0) outcome → FieldsSay segment found outcome
table-found segment found fnm is outcome say = subst (λ (file : Option (List ℕ)). FilesSay segment (table_files file) (field_lines 0) outcome) (file_at-found found 0 fnm is) say

-- and by the files of documents
pub documents-found : (segment : List ℕ) (found : List (Option (List ℕ))) (fnm fdx fdt : Option (List ℕ)) → slice_get found 0 ≡ Some fnm → slice_get found 1 ≡ Some fdx → slice_get found 2 ≡ Some fdt
    → (outcome : Outcome) → FilesSay segment (document_files fnm fdx fdt) (doc_lines 0) outcome → DocsSay segment found outcome
documents-found segment found fnm fdx fdt first second third outcome say =
    subst (λ (file : Option (List ℕ)). FilesSay segment (document_files file (file_at found 1) (file_at found 2)) (doc_lines 0) outcome) (file_at-found found 0 fnm first)
    (subst (λ (file : Option (List ℕ)). FilesSay segment (document_files fnm file (file_at found 2)) (doc_lines 0) outcome) (file_at-found found 1 fdx second)
    (subst (λ (file : Option (List ℕ)). FilesSay segment (document_files fnm fdx file) (doc_lines 0) outcome) (file_at-found found 2 fdt third) say))

short-file : (file : Option (List ℕ)) → IsLoadable file_limit file → IfSome file (λ bytes. length bytes < 2 ^ 31)
short-file None loadable = tt
short-file (Some bytes) loadable = let within : length bytes ≤ 2147483647 = loadable.within in omega arith

-- a file that was found has as many bytes as a file may have
pub found-short : (found : List (Option (List ℕ))) (place : ℕ) (file : Option (List ℕ)) → slice_get found place ≡ Some file → All (IsLoadable file_limit) found → IfSome file (λ bytes. length bytes < 2 ^ 31)
found-short found place file is each = short-file file (subst (IsLoadable file_limit) (sym (file_at-found found place file is)) (file_at-loadable found place each))
