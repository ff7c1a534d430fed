-- A commit that was made: the folder reads as the new commit.
use Rattle.std.proofs.Common.{◌≡◌, ◌≢◌, ◌⊎◌, ℕ, ◌^◌, ◌<◌, ◌≤◌, List, [], ◌∷◌, ◌++◌, Option, Some, None, Contains, refl, sym, subst, ap, ◌∙◌, inl, inr, arith}
use Rattle.std.proofs.lemmas.List.Elements.{Contains-append_left, Contains-append_right, Contains-append_cases}
use Rattle.lu_grammar.specs.Meaning.{Reads}
use Rattle.lu_dir.specs.Files.{Files, contents, with_file}
use Rattle.lu_dir.proofs.Contents.{contents-with_file-same, contents-with_file-other}
use Rattle.segment_infos.specs.Format.{commit_plan}
use Rattle.segment_infos.specs.LuceneNames.{IsGenerationNumber}
use Rattle.segment_infos.specs.Spelling.{commit_bytes}
use Rattle.segment_infos.specs.Values.{CommitValue}
use Rattle.lu_folder.specs.declared.new_file.NewFile.{NewFile}
use Rattle.lu_folder.specs.ChangeValues.{ChangeValue, commit_name}
use Rattle.lu_folder.specs.Writing.{with_new_files}
use Rattle.lu_folder.specs.Changes.{pending_file, written, sealed, IsMade}
use Rattle.lu_folder.specs.Commits.{commit_file, Says, IsGoodCommit, IsCurrent, HasCommitFile, IsNewest}
use Rattle.lu_folder.specs.Keeping.{IsFreshChange, IsNew, AreKept, AddsOnly}
use Rattle.lu_folder.proofs.SameName.{same_name, Contains-only, only-is, none-within, some_is_not_none, commit_name-other}
use Rattle.lu_folder.proofs.UnmadeLemmas.{absent-written, good-there}

-- after some files were made, a file is as before and none of them has its name, or it is one of them
with_new_files-at : (files : List NewFile) (base : Files) (name : List ℕ) → ((contents (with_new_files files base) name ≡ contents base name) × ((file : NewFile) → Contains files file → file.name ≢ name))
    ⊎ ((file : NewFile) × Contains files file × (file.name ≡ name) × (contents (with_new_files files base) name ≡ Some file.bytes))
with_new_files-at [] base name = inl (refl, λ file among. absurd (none-within file among))
with_new_files-at (file ∷ rest) base name = cases (with_new_files-at rest (with_file file.name file.bytes base) name) (same_name name file.name)
  where
    cases : ((contents (with_new_files rest (with_file file.name file.bytes base)) name ≡ contents (with_file file.name file.bytes base) name) × ((f : NewFile) → Contains rest f → f.name ≢ name)) ⊎ ((f : NewFile) × Contains rest f × (f.name ≡ name) × (contents (with_new_files rest (with_file file.name file.bytes base)) name ≡ Some f.bytes))
        → (name ≡ file.name) ⊎ (name ≢ file.name)
        → ((contents (with_new_files rest (with_file file.name file.bytes base)) name ≡ contents base name) × ((f : NewFile) → Contains (file ∷ rest) f → f.name ≢ name)) ⊎ ((f : NewFile) × Contains (file ∷ rest) f × (f.name ≡ name) × (contents (with_new_files rest (with_file file.name file.bytes base)) name ≡ Some f.bytes))
    cases (inr (f, among, named, is)) which = inr (f, Contains-append_right (file ∷ []) rest f among, named, is)
    cases (inl (same, none)) (inl here) = inr (file, Contains-append_left (file ∷ []) rest file (Contains-only file), sym here, same ∙ ap (contents (with_file file.name file.bytes base)) here ∙ contents-with_file-same file.name file.bytes base)
    cases (inl (same, none)) (inr differ) = inl (same ∙ contents-with_file-other file.name file.bytes base name differ, λ f among. apart f (Contains-append_cases (file ∷ []) rest f among))
      where
        apart : (f : NewFile) → Contains (file ∷ []) f ⊎ Contains rest f → f.name ≢ name
        apart f (inl head) named = differ (sym named ∙ ap (λ (x : NewFile). x.name) (sym (only-is file f head)))
        apart f (inr tail) named = none f tail named

module _ (change : ChangeValue) (old : Files) (valid : IsGenerationNumber change.generation) (fresh : IsFreshChange change old) where
  own-pending : Contains (written change) (pending_file change)
  own-pending = Contains-append_right change.files (pending_file change ∷ []) (pending_file change) (Contains-only (pending_file change))

  -- the sealed commit
  sealed-own : commit_file (sealed change old) change.generation ≡ Some (commit_bytes change.commit)
  sealed-own = contents-with_file-same (commit_name change.generation) (commit_bytes change.commit) (with_new_files change.files old)

  sealed-new : (file : NewFile) → Contains change.files file → contents (sealed change old) file.name ≡ Some file.bytes
  sealed-new file among = contents-with_file-other (commit_name change.generation) (commit_bytes change.commit) (with_new_files change.files old) file.name (fresh.no_commit file among change.generation) ∙ by_file (with_new_files-at change.files old file.name)
    where
      by_file : ((contents (with_new_files change.files old) file.name ≡ contents old file.name) × ((f : NewFile) → Contains change.files f → f.name ≢ file.name)) ⊎ ((f : NewFile) × Contains change.files f × (f.name ≡ file.name) × (contents (with_new_files change.files old) file.name ≡ Some f.bytes))
          → contents (with_new_files change.files old) file.name ≡ Some file.bytes
      by_file (inl (same, none)) = absurd (none file among refl)
      by_file (inr (f, there, named, is)) = is ∙ ap (λ (x : NewFile). Some x.bytes) (fresh.one f file there among named)

  -- a name that is not written
  sealed-other : (name : List ℕ) → name ≢ commit_name change.generation → ((file : NewFile) → Contains change.files file → file.name ≢ name) → contents (sealed change old) name ≡ contents old name
  sealed-other name differ none = contents-with_file-other (commit_name change.generation) (commit_bytes change.commit) (with_new_files change.files old) name differ ∙ by_file (with_new_files-at change.files old name)
    where
      by_file : ((contents (with_new_files change.files old) name ≡ contents old name) × ((f : NewFile) → Contains change.files f → f.name ≢ name)) ⊎ ((f : NewFile) × Contains change.files f × (f.name ≡ name) × (contents (with_new_files change.files old) name ≡ Some f.bytes))
          → contents (with_new_files change.files old) name ≡ contents old name
      by_file (inl (same, apart)) = same
      by_file (inr (f, there, named, is)) = absurd (none f there named)

  pub sealed-kept : AreKept old (sealed change old)
  sealed-kept name there = sealed-other name
      (λ same. there (ap (contents old) same ∙ fresh.greatest change.generation (omega arith) valid.1))
      (λ file among named. there (ap (contents old) (sym named) ∙ fresh.absent file among))

  sealed-later : (later : ℕ) → change.generation < later → later < 2 ^ 63 → commit_file (sealed change old) later ≡ None
  sealed-later later less bound = sealed-other (commit_name later) (commit_name-other change.generation later less) (λ file among. fresh.no_commit file among later) ∙ fresh.greatest later (omega arith) bound

  pub sealed-adds : AddsOnly change old (sealed change old)
  sealed-adds name lacked = by_name (same_name name (commit_name change.generation))
    where
      by_file : name ≢ commit_name change.generation → ((contents (with_new_files change.files old) name ≡ contents old name) × ((f : NewFile) → Contains change.files f → f.name ≢ name)) ⊎ ((f : NewFile) × Contains change.files f × (f.name ≡ name) × (contents (with_new_files change.files old) name ≡ Some f.bytes))
          → (contents (sealed change old) name ≡ None) ⊎ ((file : NewFile) × Contains (written change) file × (file.name ≡ name))
      by_file differ (inl (same, apart)) = inl (sealed-other name differ apart ∙ lacked)
      by_file differ (inr (f, there, named, is)) = inr (f, Contains-append_left change.files (pending_file change ∷ []) f there, named)

      by_name : (name ≡ commit_name change.generation) ⊎ (name ≢ commit_name change.generation) → (contents (sealed change old) name ≡ None) ⊎ ((file : NewFile) × Contains (written change) file × (file.name ≡ name))
      by_name (inl same) = inr (pending_file change, own-pending, sym same)
      by_name (inr differ) = by_file differ (with_new_files-at change.files old name)

  module _ (new : Files) (made : IsMade change old new) where
    -- what is not removed is as in the sealed folder
    made-kept : (name : List ℕ) → ¬ Contains change.removable name → contents new name ≡ contents (sealed change old) name
    made-kept name kept = by_change (made name)
      where
        by_change : (contents new name ≡ contents (sealed change old) name) ⊎ (Contains change.removable name × (contents new name ≡ None)) → contents new name ≡ contents (sealed change old) name
        by_change (inl same) = same
        by_change (inr (among, gone)) = absurd (kept among)

    -- what is not in the sealed folder is not made
    made-none : (name : List ℕ) → contents (sealed change old) name ≡ None → contents new name ≡ None
    made-none name none = by_change (made name)
      where
        by_change : (contents new name ≡ contents (sealed change old) name) ⊎ (Contains change.removable name × (contents new name ≡ None)) → contents new name ≡ None
        by_change (inl same) = same ∙ none
        by_change (inr (among, gone)) = gone

    made-own : commit_file new change.generation ≡ Some (commit_bytes change.commit)
    made-own = made-kept (commit_name change.generation) (fresh.kept (pending_file change) own-pending) ∙ sealed-own

    made-later : (later : ℕ) → change.generation < later → later < 2 ^ 63 → commit_file new later ≡ None
    made-later later less bound = made-none (commit_name later) (sealed-later later less bound)

    pub made-adds : AddsOnly change old new
    made-adds name lacked = by_name (sealed-adds name lacked)
      where
        by_name : (contents (sealed change old) name ≡ None) ⊎ ((file : NewFile) × Contains (written change) file × (file.name ≡ name)) → (contents new name ≡ None) ⊎ ((file : NewFile) × Contains (written change) file × (file.name ≡ name))
        by_name (inl none) = inl (made-none name none)
        by_name (inr is) = inr is

    module _ (good : Reads (commit_plan (commit_bytes change.commit)) (commit_bytes change.commit) change.commit) where
      pub made-new : IsNew change old new
      made-new = record {
        current = record {
          good = record { is = valid; says = subst (λ (o : Option (List ℕ)). Says o change.commit) (sym made-own) good };
          last = λ later other less is. good-there new later other is.says (made-later later less is.is.1);
        };
        newest = record {
          here = record { is = valid; there = some_is_not_none (commit_file new change.generation) (commit_bytes change.commit) made-own };
          last = λ later less is. is.there (made-later later less is.is.1);
        };
        whole = λ file among. made-kept file.name (fresh.kept file (Contains-append_left change.files (pending_file change ∷ []) file among)) ∙ sealed-new file among;
        kept = λ name there not_removable. made-kept name not_removable ∙ sealed-kept name there;
      }
