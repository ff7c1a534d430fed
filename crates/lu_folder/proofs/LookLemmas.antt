-- Looks at commits one after another.
use Rattle.std.proofs.Common.{◌≡◌, ℕ, ◌+◌, ◌<◌, length, Result, Ok, Err, IfOk, Bool, true, false, cond, List, [], ◌∷◌, get_or, Option, Some, None, IfSome, All, refl, sym, ap, subst, ◌∙◌, arith}
use Rattle.std.specs.Prelude.{slice_get, IfErr}
use Rattle.std.specs.Option.{ForSome, option_map}
use Rattle.lu_dir.specs.Files.{Files, contents}
use Rattle.lu_grammar.specs.Bytes.{IsBytes}
use Rattle.lu_grammar.proofs.LawLemmas.{no_fault_if_read}
use Rattle.lu_dir.specs.Loading.{is_over, first_over, IsLoadable}
use Rattle.lu_dir.specs.declared.loading.LoadFault.{LoadFault}
use Rattle.lu_dir.specs.declared.loading.LoadFault.TheVariants as load
use Rattle.lu_types.specs.declared.kind.FileKind.TheVariants as kinds
use Rattle.lu_types.specs.declared.fault.Spot.{Spot}
use Rattle.segment_infos.specs.Format.{commit_plan}
use Rattle.segment_infos.specs.Values.{CommitValue}
use Rattle.lu_folder.specs.Commits.{commit_file, Says}
use Rattle.lu_folder.specs.Choosing.{IsFaulty, IsPassedOver, is_too_large, IsNoIndex}
use Rattle.lu_folder.specs.Looking.{folder_fault_of, CommitTells, Looks, IsLookFault, first_commit_fault, IsFirst, IsSeen}
use Rattle.lu_folder.specs.declared.choosing.Look.{Look}
use Rattle.lu_folder.specs.declared.fault.FolderFault.{FolderFault}
use Rattle.lu_folder.specs.declared.fault.FolderFault.TheVariants.{Failed, NoIndex, FileTooLarge, NotStanding, OutOfMemory}

-- what holds of files that are told holds of them before, where they are the same
pub told-before : {P : Files → Type 0} (old new : Option Files) → new ≡ old → ForSome new P → ForSome old P
told-before old new same there told is = there told (same ∙ is)

-- one file is too large, or it is not
pub over-one : (files : Files) (limit : ℕ) (name : List ℕ) (place : ℕ) → first_over files limit (name ∷ []) ≡ Some place → is_over limit (contents files name) ≡ true
over-one files limit name place is = by_test (is_over limit (contents files name)) is
  where
    by_test : (t : Bool) → cond t (Some 0) (option_map (λ (n : ℕ). n + 1) None) ≡ Some place → t ≡ true
    by_test true is = refl
    by_test false is = cc

pub fits-one : (files : Files) (limit : ℕ) (name : List ℕ) → first_over files limit (name ∷ []) ≡ None → is_over limit (contents files name) ≡ false
fits-one files limit name is = by_test (is_over limit (contents files name)) is
  where
    by_test : (t : Bool) → cond t (Some 0) (option_map (λ (n : ℕ). n + 1) None) ≡ None → t ≡ false
    by_test true is = cc
    by_test false is = refl

-- what was found beside the one name
pub found-one : (files : Files) (name : List ℕ) (found : List (Option (List ℕ))) (here : Option (List ℕ)) → found ≡ contents files name ∷ [] → slice_get found 0 ≡ Some here → here ≡ contents files name
found-one files name found here is at = some_same (sym at ∙ ap (λ (all : List (Option (List ℕ))). slice_get all 0) is)
  where
    some_same : {x y : Option (List ℕ)} → Some x ≡ Some y → x ≡ y
    some_same e = cc

-- it is made of bytes
pub bytes-one : (limit : ℕ) (found : List (Option (List ℕ))) (here : Option (List ℕ)) → All (IsLoadable limit) found → slice_get found 0 ≡ Some here → IfSome here IsBytes
bytes-one limit [] here all at = absurd (cc)
bytes-one limit (one ∷ rest) here all at = let same : one ≡ here = cc in subst (λ (o : Option (List ℕ)). IfSome o IsBytes) same (all 0 one (omega arith)).bytes

-- a commit that is faulty is not good
pub faulty-not_good : (found : Option (List ℕ)) (spot : Spot) (commit : CommitValue) → IfSome found IsBytes → IsFaulty found spot → Says found commit → ⊥
faulty-not_good None spot commit fits faulty says = says
faulty-not_good (Some bytes) spot commit fits faulty says = no_fault_if_read (commit_plan bytes) bytes commit spot.offset spot.rule fits says faulty.1

-- it is passed over
pub faulty-passed : (files : Files) (generation : ℕ) (spot : Spot) → IsFaulty (commit_file files generation) spot → is_too_large files generation ≡ false → IfSome (commit_file files generation) IsBytes → IsPassedOver files generation
faulty-passed files generation spot faulty fits made = record { fits = fits; not_good = λ commit good. faulty-not_good (commit_file files generation) spot commit made faulty good.says }

-- the first fault, with one more
pub IsFirst-more : (files : Files) (generations : List ℕ) (count generation : ℕ) (first : Option (ℕ × Spot)) (spot : Spot) → generation ≡ get_or generations count 0 → IsFaulty (commit_file files generation) spot → IsFirst files generations count first
    → IsFirst files generations (count + 1) (first_commit_fault first (generation, spot))
IsFirst-more files generations count generation None spot is faulty none = (omega arith, ap (λ (k : ℕ). get_or generations k 0) (sym none) ∙ sym is, faulty)
IsFirst-more files generations count generation (Some one) spot is faulty (some, at, holds) = (omega arith, at, holds)

-- the fault of a call that loads the file of a commit
pub Looks-fault : (files : Files) (generation : ℕ) (fault : LoadFault) (answer : FolderFault) → answer ≡ folder_fault_of fault kinds.Commit → ((place : ℕ) → fault ≡ load.TooLarge place → is_too_large files generation ≡ true) → Looks files generation (Err answer)
Looks-fault files generation load.Failed answer is over = subst (λ (f : FolderFault). Looks files generation (Err f)) (sym is) tt
Looks-fault files generation (load.TooLarge place) answer is over = subst (λ (f : FolderFault). Looks files generation (Err f)) (sym is) (refl, over place refl)
Looks-fault files generation load.OutOfMemory answer is over = subst (λ (f : FolderFault). Looks files generation (Err f)) (sym is) tt

-- what was judged of it
pub Looks-judged : (files : Files) (generation : ℕ) (answer : Result Look FolderFault) (here : Option (List ℕ)) → here ≡ commit_file files generation → IfOk answer (CommitTells here) → ((fault : FolderFault) → answer ≡ Err fault → fault ≡ OutOfMemory) → is_too_large files generation ≡ false → IfSome here IsBytes → Looks files generation answer
Looks-judged files generation (Ok look) here same tells memory fits made = (subst (λ (o : Option (List ℕ)). CommitTells o look) same tells, fits, subst (λ (o : Option (List ℕ)). IfSome o IsBytes) same made)
Looks-judged files generation (Err fault) here same tells memory fits made = subst (λ (f : FolderFault). Looks files generation (Err f)) (sym (memory fault refl)) tt

-- neither of them is that of a choice
pub loaded-fault : (fault : LoadFault) (answer : FolderFault) → answer ≡ folder_fault_of fault kinds.Commit → IsLookFault answer
loaded-fault load.Failed answer is = subst IsLookFault (sym is) tt
loaded-fault (load.TooLarge place) answer is = subst IsLookFault (sym is) tt
loaded-fault load.OutOfMemory answer is = subst IsLookFault (sym is) tt

pub judged-fault : (answer : Result Look FolderFault) → ((fault : FolderFault) → answer ≡ Err fault → fault ≡ OutOfMemory) → IfErr answer IsLookFault
judged-fault (Ok look) memory = tt
judged-fault (Err fault) memory = subst IsLookFault (sym (memory fault refl)) tt

-- it is not said that there is no index where one was looked at
pub IsNoIndex-fault : (fault : FolderFault) (generations : List ℕ) (place : ℕ) → place < length generations → IsLookFault fault → IsNoIndex (Err fault) generations
IsNoIndex-fault Failed generations place within is = λ none. some_not_none (ap length none) within
  where
    some_not_none : {n k : ℕ} → n ≡ 0 → k < n → ⊥
    some_not_none zero_is less = omega arith
IsNoIndex-fault NoIndex generations place within is = absurd is
IsNoIndex-fault (FileTooLarge kind) generations place within is = λ none. some_not_none (ap length none) within
  where
    some_not_none : {n k : ℕ} → n ≡ 0 → k < n → ⊥
    some_not_none zero_is less = omega arith
IsNoIndex-fault (NotStanding generation fault) generations place within is = absurd is
IsNoIndex-fault OutOfMemory generations place within is = tt

pub IsSeen-more : (count : ℕ) (first : Option (ℕ × Spot)) (fault : ℕ × Spot) → IsSeen (count + 1) (first_commit_fault first fault)
IsSeen-more count None fault = omega arith
IsSeen-more count (Some first) fault = omega arith
