-- Files that are written one after another.
use Rattle.std.proofs.Common.{◌≡◌, ◌≢◌, ◌⊎◌, ℕ, ◌+◌, ◌<◌, List, [], ◌∷◌, ◌++◌, take, drop, length, get_or, Option, Contains, refl, sym, subst, ap, ◌∙◌, inl, inr}
use Rattle.std.proofs.lemmas.List.{take-append-drop, take_more}
use Rattle.std.proofs.lemmas.List.Elements.{Contains-append_left, Contains-append_right}
use Rattle.lu_dir.specs.Files.{Files, contents, with_file, CreateLeaves, before, absent, prefix}
use Rattle.lu_dir.proofs.Contents.{contents-with_file-same, contents-with_file-other, contents-without_file-same, contents-without_file-other}
use Rattle.lu_dir.proofs.Told.{CreateLeaves-whole}
use Rattle.lu_folder.specs.declared.new_file.NewFile.{NewFile}
use Rattle.lu_folder.specs.Writing.{with_new_files, IsBegun, WritesOnly}
use Rattle.lu_folder.proofs.SameName.{same_name, Contains-only}

-- a file is its name and its bytes
pub file-same : (file : NewFile) (name bytes : List ℕ) → file.name ≡ name → file.bytes ≡ bytes → file ≡ record { name = name; bytes = bytes }
file-same file name bytes named holds = ap (λ (n : List ℕ). record { name = n; bytes = file.bytes }) named ∙ ap (λ (b : List ℕ). record { name = name; bytes = b }) holds

pub WritesOnly-none : (written : List NewFile) (files : Files) → WritesOnly written files files
WritesOnly-none written files name = inl refl

-- one file is begun, and the others are as before
begun : (file : NewFile) (old new : Files) → IsBegun file.bytes (contents new file.name) → ((name : List ℕ) → name ≢ file.name → contents new name ≡ contents old name) → WritesOnly (file ∷ []) old new
begun file old new here others name = by_name (same_name name file.name)
  where
    by_name : (name ≡ file.name) ⊎ (name ≢ file.name) → (contents new name ≡ contents old name) ⊎ ((f : NewFile) × Contains (file ∷ []) f × (f.name ≡ name) × IsBegun f.bytes (contents new name))
    by_name (inl same) = inr (file, Contains-only file, sym same, subst (λ (n : List ℕ). IsBegun file.bytes (contents new n)) (sym same) here)
    by_name (inr differ) = inl (others name differ)

-- what a failed `create` leaves
pub WritesOnly-create : (file : NewFile) (old new : Files) → CreateLeaves file.name file.bytes old new → WritesOnly (file ∷ []) old new
WritesOnly-create file old new (before same) = λ name. inl (ap (λ (files : Files). contents files name) same)
WritesOnly-create file old new (absent gone) =
    begun file old new (subst (λ (o : Option (List ℕ)). IsBegun file.bytes o) (sym (ap (λ (files : Files). contents files file.name) gone ∙ contents-without_file-same file.name old)) tt)
    (λ name differ. ap (λ (files : Files). contents files name) gone ∙ contents-without_file-other file.name old name differ)
WritesOnly-create file old new (prefix count made) =
    begun file old new (subst (λ (o : Option (List ℕ)). IsBegun file.bytes o) (sym (ap (λ (files : Files). contents files file.name) made ∙ contents-with_file-same file.name (take count file.bytes) old)) (count, refl))
    (λ name differ. ap (λ (files : Files). contents files name) made ∙ contents-with_file-other file.name (take count file.bytes) old name differ)

-- some files are written, and then others
pub WritesOnly-more : (one other : List NewFile) (old mid new : Files) → WritesOnly one old mid → WritesOnly other mid new → WritesOnly (one ++ other) old new
WritesOnly-more one other old mid new first second name = cases (second name) (first name)
  where
    cases : (contents new name ≡ contents mid name) ⊎ ((f : NewFile) × Contains other f × (f.name ≡ name) × IsBegun f.bytes (contents new name))
        → (contents mid name ≡ contents old name) ⊎ ((f : NewFile) × Contains one f × (f.name ≡ name) × IsBegun f.bytes (contents mid name))
        → (contents new name ≡ contents old name) ⊎ ((f : NewFile) × Contains (one ++ other) f × (f.name ≡ name) × IsBegun f.bytes (contents new name))
    cases (inr (f, among, named, here)) earlier = inr (f, Contains-append_right one other f among, named, here)
    cases (inl same) (inl earlier) = inl (same ∙ earlier)
    cases (inl same) (inr (f, among, named, here)) = inr (f, Contains-append_left one other f among, named, subst (λ (o : Option (List ℕ)). IsBegun f.bytes o) (sym same) here)

-- files that were made
pub WritesOnly-made : (written : List NewFile) (files : Files) → WritesOnly written files (with_new_files written files)
WritesOnly-made [] files = WritesOnly-none [] files
WritesOnly-made (file ∷ rest) files =
    WritesOnly-more (file ∷ []) rest files (with_file file.name file.bytes files) (with_new_files rest (with_file file.name file.bytes files))
    (WritesOnly-create file files (with_file file.name file.bytes files) (CreateLeaves-whole file.name file.bytes files))
    (WritesOnly-made rest (with_file file.name file.bytes files))

-- those that are written are among more
pub WritesOnly-among : (one other : List NewFile) (old new : Files) → WritesOnly one old new → WritesOnly (one ++ other) old new
WritesOnly-among one other old new writes = WritesOnly-more one other old new new writes (WritesOnly-none other new)

-- files that are made after others
pub with_new_files-append : (one other : List NewFile) (files : Files) → with_new_files (one ++ other) files ≡ with_new_files other (with_new_files one files)
with_new_files-append [] other files = refl
with_new_files-append (file ∷ rest) other files = with_new_files-append rest other (with_file file.name file.bytes files)

-- one file more
pub with_new_files-next : (all : List NewFile) (place : ℕ) (file : NewFile) (files : Files) → place < length all → file ≡ get_or all place file → with_file file.name file.bytes (with_new_files (take place all) files) ≡ with_new_files (take (place + 1) all) files
with_new_files-next all place file files within at =
    sym (with_new_files-append (take place all) (file ∷ []) files)
    ∙ ap (λ (some : List NewFile). with_new_files some files) (ap (λ (f : NewFile). take place all ++ f ∷ []) at ∙ sym (take_more all place file within))

-- one file more fails
pub WritesOnly-next : (all : List NewFile) (place : ℕ) (file : NewFile) (old new : Files) → place < length all → file ≡ get_or all place file → CreateLeaves file.name file.bytes (with_new_files (take place all) old) new → WritesOnly all old new
WritesOnly-next all place file old new within at left =
    subst (λ (some : List NewFile). WritesOnly some old new)
    (ap (λ (some : List NewFile). some ++ drop (place + 1) all) (ap (λ (f : NewFile). take place all ++ f ∷ []) at ∙ sym (take_more all place file within)) ∙ take-append-drop (place + 1) all)
    (WritesOnly-among (take place all ++ file ∷ []) (drop (place + 1) all) old new
    (WritesOnly-more (take place all) (file ∷ []) old (with_new_files (take place all) old) new (WritesOnly-made (take place all) old) (WritesOnly-create file (with_new_files (take place all) old) new left)))
