-- A commit that was stopped before it was made: the folder reads as before.
use Rattle.std.proofs.Common.{◌≡◌, ◌≢◌, ◌⊎◌, ◌↔◌, ℕ, ◌^◌, ◌<◌, ◌≤◌, List, [], ◌∷◌, ◌++◌, take, length, Option, Some, None, Contains, refl, sym, subst, ap, ◌∙◌, inl, inr, arith}
use Rattle.std.proofs.lemmas.Bool.{cases_lt}
use Rattle.std.proofs.lemmas.List.{take_all}
use Rattle.std.proofs.lemmas.List.Elements.{Contains-append_cases}
use Rattle.lu_grammar.specs.Meaning.{Reads}
use Rattle.lu_dir.specs.Files.{Files, contents}
use Rattle.segment_infos.specs.Format.{commit_plan}
use Rattle.segment_infos.specs.LuceneNames.{IsGenerationNumber}
use Rattle.segment_infos.specs.Spelling.{commit_bytes, pending}
use Rattle.segment_infos.specs.Values.{CommitValue}
use Rattle.segment_infos.proofs.WrittenCommits.{prefix-not_good, pending-not_good, length-pending}
use Rattle.lu_folder.specs.declared.new_file.NewFile.{NewFile}
use Rattle.lu_folder.specs.ChangeValues.{ChangeValue, commit_name}
use Rattle.lu_folder.specs.Writing.{IsBegun}
use Rattle.lu_folder.specs.Changes.{pending_file, written, IsUnmade}
use Rattle.lu_folder.specs.Commits.{commit_file, Says, IsGoodCommit, IsCurrent}
use Rattle.lu_folder.specs.Keeping.{IsFreshChange, IsOld, AreKept, AddsOnly}
use Rattle.lu_folder.proofs.SameName.{only-is, some_is_not_none}
use Rattle.lu_folder.proofs.SealingLemmas.{take-pending}

-- no part of the pending form of a good commit is good
pub begun-not_good : (commit v : CommitValue) (count : ℕ) → Reads (commit_plan (commit_bytes commit)) (commit_bytes commit) commit → Reads (commit_plan (take count (pending (commit_bytes commit)))) (take count (pending (commit_bytes commit))) v → ⊥
begun-not_good commit v count good is = by_count (cases_lt count (length (commit_bytes commit)))
  where
    by_count : (count < length (commit_bytes commit)) ⊎ (length (commit_bytes commit) ≤ count) → ⊥
    by_count (inl short) = prefix-not_good (commit_bytes commit) count commit v good short
        (subst (λ (b : List ℕ). Reads (commit_plan b) b v) (take-pending count (commit_bytes commit) short) is)
    by_count (inr long) = pending-not_good (commit_bytes commit) commit v good
        (subst (λ (b : List ℕ). Reads (commit_plan b) b v) (take_all count (pending (commit_bytes commit)) (omega (arith, length-pending (commit_bytes commit)))) is)

-- a good commit is there
pub good-there : (files : Files) (generation : ℕ) (commit : CommitValue) → Says (commit_file files generation) commit → commit_file files generation ≢ None
good-there files generation commit is none = subst (λ (o : Option (List ℕ)). Says o commit) none is

module _ (change : ChangeValue) (old : Files) (valid : IsGenerationNumber change.generation) (fresh : IsFreshChange change old) where
  -- what is written was not there
  pub absent-written : (file : NewFile) → Contains (written change) file → contents old file.name ≡ None
  absent-written file among = by_part (Contains-append_cases change.files (pending_file change ∷ []) file among)
    where
      by_part : Contains change.files file ⊎ Contains (pending_file change ∷ []) file → contents old file.name ≡ None
      by_part (inl new) = fresh.absent file new
      by_part (inr own) = ap (λ (f : NewFile). contents old f.name) (sym (only-is (pending_file change) file own)) ∙ fresh.greatest change.generation (omega arith) valid.1

  module _ (new : Files) (unmade : IsUnmade change old new) where
    pub unmade-kept : AreKept old new
    unmade-kept name there = by_change (unmade name)
      where
        by_change : (contents new name ≡ contents old name) ⊎ ((file : NewFile) × Contains (written change) file × (file.name ≡ name) × IsBegun file.bytes (contents new name)) → contents new name ≡ contents old name
        by_change (inl same) = same
        by_change (inr (file, among, named, begun)) = absurd (there (ap (contents old) (sym named) ∙ absent-written file among))

    pub unmade-adds : AddsOnly change old new
    unmade-adds name lacked = by_change (unmade name)
      where
        by_change : (contents new name ≡ contents old name) ⊎ ((file : NewFile) × Contains (written change) file × (file.name ≡ name) × IsBegun file.bytes (contents new name)) → (contents new name ≡ None) ⊎ ((file : NewFile) × Contains (written change) file × (file.name ≡ name))
        by_change (inl same) = inl (same ∙ lacked)
        by_change (inr (file, among, named, begun)) = inr (file, among, named)

    module _ (good : Reads (commit_plan (commit_bytes change.commit)) (commit_bytes change.commit) change.commit) where
      -- a good commit of the folder was there before
      says-same : (generation : ℕ) (commit : CommitValue) → Says (commit_file new generation) commit → commit_file new generation ≡ commit_file old generation
      says-same generation commit is = by_change (unmade (commit_name generation))
        where
          begun-bad : (held : Option (List ℕ)) → IsBegun (pending (commit_bytes change.commit)) held → Says held commit → ⊥
          begun-bad None begun none = none
          begun-bad (Some bytes) (count, part) whole = begun-not_good change.commit commit count good (subst (λ (b : List ℕ). Reads (commit_plan b) b commit) part whole)

          by_part : (file : NewFile) → Contains change.files file ⊎ Contains (pending_file change ∷ []) file → file.name ≡ commit_name generation → IsBegun file.bytes (contents new (commit_name generation)) → ⊥
          by_part file (inl among) named begun = fresh.no_commit file among generation named
          by_part file (inr own) named begun = begun-bad (contents new (commit_name generation)) (subst (λ (f : NewFile). IsBegun f.bytes (contents new (commit_name generation))) (sym (only-is (pending_file change) file own)) begun) is

          by_change : (contents new (commit_name generation) ≡ contents old (commit_name generation)) ⊎ ((file : NewFile) × Contains (written change) file × (file.name ≡ commit_name generation) × IsBegun file.bytes (contents new (commit_name generation)))
              → contents new (commit_name generation) ≡ contents old (commit_name generation)
          by_change (inl same) = same
          by_change (inr (file, among, named, begun)) = absurd (by_part file (Contains-append_cases change.files (pending_file change ∷ []) file among) named begun)

      -- a commit is good exactly where it was
      good-was : (generation : ℕ) (commit : CommitValue) → IsGoodCommit new generation commit → IsGoodCommit old generation commit
      good-was generation commit is = record { is = is.is; says = subst (λ (o : Option (List ℕ)). Says o commit) (says-same generation commit is.says) is.says }

      good-is : (generation : ℕ) (commit : CommitValue) → IsGoodCommit old generation commit → IsGoodCommit new generation commit
      good-is generation commit was = record { is = was.is; says = subst (λ (o : Option (List ℕ)). Says o commit) (sym (unmade-kept (commit_name generation) (good-there old generation commit was.says))) was.says }

      pub unmade-old : IsOld old new
      unmade-old = record { kept = unmade-kept; current = λ generation commit. (before generation commit, after generation commit) }
        where
          before : (generation : ℕ) (commit : CommitValue) → IsCurrent new generation commit → IsCurrent old generation commit
          before generation commit now = record { good = good-was generation commit now.good; last = λ later other less is. now.last later other less (good-is later other is) }

          after : (generation : ℕ) (commit : CommitValue) → IsCurrent old generation commit → IsCurrent new generation commit
          after generation commit was = record { good = good-is generation commit was.good; last = λ later other less is. was.last later other less (good-was later other is) }
