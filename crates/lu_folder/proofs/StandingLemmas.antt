-- What a commit refers to stays as it was.
use Rattle.std.proofs.Common.{◌≡◌, ◌≢◌, ◌⊎◌, ℕ, zero, suc, ◌<◌, Bool, true, false, not, ◌&&◌, cond, List, [], ◌∷◌, ◌++◌, length, Option, Some, None, Contains, refl, sym, ap, subst, ◌∙◌, inl, inr, arith}
use Rattle.std.specs.Prelude.{filter, is_some}
use Rattle.std.specs.List.{flat_map, list_any}
use Rattle.std.specs.Str.{bytes_eq}
use Rattle.std.proofs.lemmas.List.Elements.{Contains-append_left, Contains-append_right, Contains-append_cases}
use Rattle.std.proofs.lemmas.List.Folds.{list_any_at}
use Rattle.lu_dir.specs.Files.{Files, contents}
use Rattle.lu_dir.proofs.Contents.{bytes_eq-same}
use Rattle.segment_infos.specs.declared.naming.LuceneName.{LuceneName}
use Rattle.segment_infos.specs.declared.naming.LuceneName.TheVariants.{Commit}
use Rattle.segment_infos.specs.LuceneNames.{name_spelling, lucene_name_in}
use Rattle.segment_infos.specs.Referring.{KeptValue, names_kept_by, kept_names, is_spelled_among, is_removable, removable, referred_names}
use Rattle.segment_infos.specs.Values.{CommitValue}
use Rattle.lu_folder.specs.declared.new_file.NewFile.{NewFile}
use Rattle.lu_folder.specs.ChangeValues.{ChangeValue, commit_name}
use Rattle.lu_folder.specs.Changes.{pending_file, written}
use Rattle.lu_folder.specs.Keeping.{AreKept, AddsOnly, IsNew, IsWholeOrSame}
use Rattle.lu_folder.proofs.ReferredLemmas.{referred-no_commit}
use Rattle.lu_folder.proofs.SameName.{only-is}

-- what passes a filter is an element, and passes
pub Contains-filter : {A : Type 0} (p : A → Bool) (xs : List A) (y : A) → Contains (filter p xs) y → Contains xs y × (p y ≡ true)
Contains-filter p [] y (k, within, is) = absurd (omega arith)
Contains-filter {A} p (x ∷ xs) y among = by_test (p x) refl (λ rest. Contains-filter p xs y rest) among
  where
    later : Contains xs y × (p y ≡ true) → Contains (x ∷ xs) y × (p y ≡ true)
    later ((k, within, at), is) = ((suc k, omega arith, at), is)

    by_test : (t : Bool) → p x ≡ t → (Contains (filter p xs) y → Contains xs y × (p y ≡ true)) → Contains (cond t (x ∷ filter p xs) (filter p xs)) y → Contains (x ∷ xs) y × (p y ≡ true)
    by_test true is before (zero, within, same) = ((0, omega arith, same), ap p (sym same) ∙ is)
    by_test true is before (suc k, within, same) = later (before (k, omega arith, same))
    by_test false is before rest = later (before rest)

-- a name that a kept commit keeps is kept
kept-names : (kept : List KeptValue) (one : KeptValue) (name : LuceneName) → Contains kept one → Contains (names_kept_by one) name → Contains (kept_names kept) name
kept-names [] one name (k, within, is) among = absurd (omega arith)
kept-names (first ∷ rest) one name there among = by_place there (λ later. kept-names rest one name later among)
  where
    by_place : Contains (first ∷ rest) one → (Contains rest one → Contains (kept_names rest) name) → Contains (names_kept_by first ++ kept_names rest) name
    by_place (zero, within, is) later = Contains-append_left (names_kept_by first) (kept_names rest) name (subst (λ (k : KeptValue). Contains (names_kept_by k) name) (sym is) among)
    by_place (suc k, within, is) later = Contains-append_right (names_kept_by first) (kept_names rest) name (later (k, omega arith, is))

among-true : (names : List LuceneName) (name : LuceneName) → Contains names name → is_spelled_among names (name_spelling name) ≡ true
among-true names name (k, within, is) = list_any_at (λ (other : LuceneName). bytes_eq (name_spelling name) (name_spelling other)) names k name within (ap (λ (other : LuceneName). bytes_eq (name_spelling name) (name_spelling other)) is ∙ bytes_eq-same (name_spelling name))

-- it is not removable
pub kept-not_removable : (kept : List KeptValue) (one : KeptValue) (names : List (List ℕ)) (name : LuceneName) → Contains kept one → Contains (names_kept_by one) name → ¬ Contains (removable kept names) (name_spelling name)
kept-not_removable kept one names name there among removed =
    refused (is_some (lucene_name_in (name_spelling name))) (is_spelled_among (kept_names kept) (name_spelling name)) (among-true (kept_names kept) name (kept-names kept one name there among)) (Contains-filter (is_removable kept) names (name_spelling name) removed).1
  where
    refused : (a b : Bool) → b ≡ true → (a && not b) ≡ true → ⊥
    refused true true is both = cc
    refused true false is both = cc
    refused false b is both = cc

-- removable names are among those of the folder
pub removable-listed : (kept : List KeptValue) (names : List (List ℕ)) (name : List ℕ) → Contains (removable kept names) name → Contains names name
removable-listed kept names name removed = (Contains-filter (is_removable kept) names name removed).0

-- after an error each file that a commit refers to is as before, or as before absent, where no file that is written has its name
pub referred-kept : (change : ChangeValue) (old new : Files) (commit : CommitValue) → ((file : NewFile) (name : LuceneName) → Contains (written change) file → Contains (referred_names commit) name → file.name ≢ name_spelling name) → AddsOnly change old new → AreKept old new
    → (name : LuceneName) → Contains (referred_names commit) name → contents new (name_spelling name) ≡ contents old (name_spelling name)
referred-kept change old new commit apart adds kept name among = by_found (contents old (name_spelling name)) refl
  where
    lacked : (contents new (name_spelling name) ≡ None) ⊎ ((file : NewFile) × Contains (written change) file × (file.name ≡ name_spelling name)) → contents new (name_spelling name) ≡ None
    lacked (inl none) = none
    lacked (inr (file, there, same)) = absurd (apart file name there among same)

    by_found : (o : Option (List ℕ)) → contents old (name_spelling name) ≡ o → contents new (name_spelling name) ≡ contents old (name_spelling name)
    by_found None is = lacked (adds (name_spelling name) is) ∙ sym is
    by_found (Some bytes) is = kept (name_spelling name) (λ none. some_not_none (sym is ∙ none))
      where
        some_not_none : Some bytes ≡ None → ⊥
        some_not_none e = cc

-- each file that the new commit refers to is a new file, whole, or is as before
pub referred-made : (change : ChangeValue) (old new : Files) (kept : List KeptValue) (names : List (List ℕ)) → change.removable ≡ removable kept names → Contains kept (record { generation = change.generation; commit = change.commit }) → AddsOnly change old new → IsNew change old new
    → (name : LuceneName) → Contains (referred_names change.commit) name → IsWholeOrSame change old new (name_spelling name)
referred-made change old new kept names is_removable_so among adds is_new name there = by_found (contents old (name_spelling name)) refl
  where
    not_removed : ¬ Contains change.removable (name_spelling name)
    not_removed removed =
        kept-not_removable kept (record { generation = change.generation; commit = change.commit }) names name among
        (Contains-append_right (Commit change.generation ∷ []) (referred_names change.commit) name there)
        (subst (λ (some : List (List ℕ)). Contains some (name_spelling name)) is_removable_so removed)

    by_part : (file : NewFile) → Contains change.files file ⊎ Contains (pending_file change ∷ []) file → file.name ≡ name_spelling name → IsWholeOrSame change old new (name_spelling name)
    by_part file (inl new_file) same = inl (file, new_file, same, is_new.whole file new_file)
    by_part file (inr own) same = absurd (referred-no_commit change.commit.segments name change.generation there (sym same ∙ ap (λ (f : NewFile). f.name) (sym (only-is (pending_file change) file own))))

    lacked : contents old (name_spelling name) ≡ None → (contents new (name_spelling name) ≡ None) ⊎ ((file : NewFile) × Contains (written change) file × (file.name ≡ name_spelling name)) → IsWholeOrSame change old new (name_spelling name)
    lacked was (inl none) = inr (none ∙ sym was)
    lacked was (inr (file, written_so, same)) = by_part file (Contains-append_cases change.files (pending_file change ∷ []) file written_so) same

    by_found : (o : Option (List ℕ)) → contents old (name_spelling name) ≡ o → IsWholeOrSame change old new (name_spelling name)
    by_found None was = lacked was (adds (name_spelling name) was)
    by_found (Some bytes) was = inr (is_new.kept (name_spelling name) (λ none. some_not_none (sym was ∙ none)) not_removed)
      where
        some_not_none : Some bytes ≡ None → ⊥
        some_not_none e = cc
