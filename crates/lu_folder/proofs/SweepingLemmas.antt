-- Files that are removed one after another.
use Rattle.std.proofs.Common.{◌≡◌, ◌≢◌, ◌⊎◌, ℕ, ◌+◌, ◌<◌, List, [], ◌∷◌, ◌++◌, take, drop, length, get_or, Option, None, Contains, string_bytes, Result, Ok, Err, IsErrOf, OnOk, OnErr, refl, sym, subst, ap, ◌∙◌, inl, inr, arith}
use Rattle.std.specs.Option.{option_map}
use Rattle.std.specs.declared.string.String.{String}
use Rattle.std.specs.declared.alloc.Global.{Global}
use Rattle.std.proofs.lemmas.List.{take-append-drop, map-append}
use Rattle.std.proofs.lemmas.List.Elements.{Contains-append_left, Contains-append_right}
use Rattle.lu_dir.specs.Faults.{Rose, IsCaused}
use Rattle.lu_dir.specs.Files.{Files, contents, without_file, RemoveLeaves, before, absent, Leaves}
use Rattle.lu_dir.specs.Loading.{texts}
use Rattle.lu_dir.specs.declared.fail.DirFail.{DirFail}
use Rattle.lu_dir.specs.declared.fail.DirFail.TheVariants.{Failed}
use Rattle.lu_dir.proofs.Causes.{Rose-earlier, Rose-later}
use Rattle.lu_dir.proofs.Contents.{contents-without_file-same, contents-without_file-other}
use Rattle.lu_dir.proofs.Loads.{texts-more}
use Rattle.lu_dir.proofs.Told.{Leaves-wider, Leaves-changed}
use Rattle.lu_folder.specs.Sweeping.{without_files, RemovesOnly}
use Rattle.lu_folder.proofs.SameName.{same_name, Contains-only}

pub RemovesOnly-none : (names : List (List ℕ)) (files : Files) → RemovesOnly names files files
RemovesOnly-none names files name = inl refl

pub RemovesOnly-gone : (gone : List ℕ) (files : Files) → RemovesOnly (gone ∷ []) files (without_file gone files)
RemovesOnly-gone gone files name = by_name (same_name name gone)
  where
    by_name : (name ≡ gone) ⊎ (name ≢ gone) → (contents (without_file gone files) name ≡ contents files name) ⊎ (Contains (gone ∷ []) name × (contents (without_file gone files) name ≡ None))
    by_name (inl same) = inr (subst (λ (n : List ℕ). Contains (gone ∷ []) n) (sym same) (Contains-only gone), ap (contents (without_file gone files)) same ∙ contents-without_file-same gone files)
    by_name (inr differ) = inl (contents-without_file-other gone files name differ)

pub RemovesOnly-remove : (gone : List ℕ) (old new : Files) → RemoveLeaves gone old new → RemovesOnly (gone ∷ []) old new
RemovesOnly-remove gone old new (before same) = λ name. inl (ap (λ (files : Files). contents files name) same)
RemovesOnly-remove gone old new (absent removed) = subst (λ (files : Files). RemovesOnly (gone ∷ []) old files) (sym removed) (RemovesOnly-gone gone old)

-- some are removed, and then others
pub RemovesOnly-more : (one other : List (List ℕ)) (old mid new : Files) → RemovesOnly one old mid → RemovesOnly other mid new → RemovesOnly (one ++ other) old new
RemovesOnly-more one other old mid new first second name = cases (second name) (first name)
  where
    cases : (contents new name ≡ contents mid name) ⊎ (Contains other name × (contents new name ≡ None)) → (contents mid name ≡ contents old name) ⊎ (Contains one name × (contents mid name ≡ None))
        → (contents new name ≡ contents old name) ⊎ (Contains (one ++ other) name × (contents new name ≡ None))
    cases (inr (among, gone)) earlier = inr (Contains-append_right one other name among, gone)
    cases (inl same) (inl earlier) = inl (same ∙ earlier)
    cases (inl same) (inr (among, gone)) = inr (Contains-append_left one other name among, same ∙ gone)

pub RemovesOnly-all : (names : List (List ℕ)) (files : Files) → RemovesOnly names files (without_files names files)
RemovesOnly-all [] files = RemovesOnly-none [] files
RemovesOnly-all (name ∷ names) files =
    RemovesOnly-more (name ∷ []) names files (without_file name files) (without_files names (without_file name files)) (RemovesOnly-gone name files) (RemovesOnly-all names (without_file name files))

pub without_files-append : (one other : List (List ℕ)) (files : Files) → without_files (one ++ other) files ≡ without_files other (without_files one files)
without_files-append [] other files = refl
without_files-append (name ∷ rest) other files = without_files-append rest other (without_file name files)

texts_more : (names : List (String Global)) (place : ℕ) (text : String Global) (name : List ℕ) → place < length names → text ≡ get_or names place text → name ≡ string_bytes text → texts (take place names) ++ name ∷ [] ≡ texts (take (place + 1) names)
texts_more names place text name within at named = ap (λ (n : List ℕ). texts (take place names) ++ n ∷ []) named ∙ sym (texts-more names place text within at)

-- one name more
pub without_files-next : (names : List (String Global)) (place : ℕ) (text : String Global) (name : List ℕ) (files : Files) → place < length names → text ≡ get_or names place text → name ≡ string_bytes text
    → without_file name (without_files (texts (take place names)) files) ≡ without_files (texts (take (place + 1) names)) files
without_files-next names place text name files within at named =
    sym (without_files-append (texts (take place names)) (name ∷ []) files) ∙ ap (λ (some : List (List ℕ)). without_files some files) (texts_more names place text name within at named)

pub RemovesOnly-next : (names : List (String Global)) (place : ℕ) (text : String Global) (name : List ℕ) (old mid new : Files) → place < length names → text ≡ get_or names place text → name ≡ string_bytes text
    → RemovesOnly (texts (take place names)) old mid → RemovesOnly (name ∷ []) mid new → RemovesOnly (texts (take (place + 1) names)) old new
RemovesOnly-next names place text name old mid new within at named first second =
    subst (λ (some : List (List ℕ)). RemovesOnly some old new) (texts_more names place text name within at named) (RemovesOnly-more (texts (take place names)) (name ∷ []) old mid new first second)

-- a removal, however it was answered
pub removal : (name : List ℕ) (answer : Result (Unit {0}) DirFail) (old new : Option Files) → OnOk answer (new ≡ option_map (without_file name) old) → OnErr answer (Leaves (RemoveLeaves name) old new) → Leaves (RemovesOnly (name ∷ [])) old new
removal name (Ok tt) old new removed left = Leaves-changed (without_file name) (RemovesOnly (name ∷ [])) old new removed (RemovesOnly-gone name)
removal name (Err fail) old new removed left = Leaves-wider (RemoveLeaves name) (RemovesOnly (name ∷ [])) old new (RemovesOnly-remove name) left

-- both of two calls did what they were to
pub both_done : (one other next : Result (Unit {0}) DirFail) (A B C : Type 0) → OnOk next ((one ≡ Ok tt) × (other ≡ Ok tt)) → OnOk one A → OnOk other B → (A → B → C) → OnOk next C
both_done one other (Err fail) A B C both first second follows = tt
both_done one other (Ok tt) A B C both first second follows = follows (subst (λ (r : Result (Unit {0}) DirFail). OnOk r A) both.0 first) (subst (λ (r : Result (Unit {0}) DirFail). OnOk r B) both.1 second)

-- one of two calls failed
pub one_failed : (one other next : Result (Unit {0}) DirFail) (start mid end : ℕ) → (IsErrOf next Failed → (one ≡ Err Failed) ⊎ (other ≡ Err Failed)) → IsCaused start mid (IsErrOf one Failed) → IsCaused mid end (IsErrOf other Failed) → IsCaused start end (IsErrOf next Failed)
one_failed one other next start mid end which first second = record {
  later = omega (arith, first.later, second.later);
  rose = λ failed. by_call (which failed);
}
  where
    by_call : (one ≡ Err Failed) ⊎ (other ≡ Err Failed) → Rose start end
    by_call (inl failed) = Rose-later start mid end second.later first.later (first.rose failed)
    by_call (inr failed) = Rose-earlier start mid end first.later (second.rose failed)

-- those that are removed are among more
pub RemovesOnly-among : (names : List (String Global)) (many : ℕ) (old new : Files) → RemovesOnly (texts (take many names)) old new → RemovesOnly (texts names) old new
RemovesOnly-among names many old new removes =
    subst (λ (some : List (List ℕ)). RemovesOnly some old new)
    (sym (map-append string_bytes (take many names) (drop many names)) ∙ ap texts (take-append-drop many names))
    (RemovesOnly-more (texts (take many names)) (texts (drop many names)) old new new removes (RemovesOnly-none (texts (drop many names)) new))
