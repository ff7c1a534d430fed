-- The commit that is chosen among those that are there.
use Rattle.std.proofs.Common.{◌≡◌, ◌≢◌, ◌⊎◌, ℕ, ◌<◌, ◌≤◌, min, true, false, List, [], ◌∷◌, length, zero, suc, get_or, take, length-take, All, Option, Some, None, Result, Ok, Err, Contains, refl, sym, ap, subst, ◌∙◌, inl, inr, arith}
use Rattle.std.specs.Prelude.{IsPermutation}
use Rattle.std.specs.FinMap.{keys}
use Rattle.std.proofs.lemmas.Bool.{cases_lt}
use Rattle.std.proofs.lemmas.List.{get_or-take}
use Rattle.std.proofs.lemmas.List.Sorted.{Contains-permutation, IsPermutation-sym, length_permutation}
use Rattle.lu_dir.specs.Files.{Files}
use Rattle.segment_infos.specs.Generations.{generation_in, listed_generations, AreGenerations}
use Rattle.segment_infos.specs.LuceneNames.{IsGenerationNumber}
use Rattle.segment_infos.specs.Values.{CommitValue}
use Rattle.lu_folder.specs.Commits.{IsGoodCommit, IsCurrent, HasCommitFile, IsNewest}
use Rattle.lu_folder.specs.Choosing.{is_too_large, IsPassedOver, AnswersCurrent, AnswersNewest, IsNoIndex}
use Rattle.lu_folder.specs.Looking.{ArePassed, Walks}
use Rattle.lu_folder.specs.declared.choosing.Chosen.{Chosen}
use Rattle.lu_folder.specs.declared.fault.FolderFault.{FolderFault}
use Rattle.lu_folder.specs.declared.fault.FolderFault.TheVariants.{Failed, NoIndex, FileTooLarge, NotStanding, OutOfMemory}
use Rattle.lu_folder.proofs.ListedLemmas.{Contains-filter_map, generation_in-commit, Contains-at, Contains-place, there-found, found-there}
use Rattle.lu_folder.proofs.UnmadeLemmas.{good-there}

-- the first of some, as the one of a list of one
take-one : (found : List ℕ) (many place generation : ℕ) → many ≡ min (length found) 1 → place < length (take many found) → get_or (take many found) place 0 ≡ generation → (0 < length found) × (get_or found 0 0 ≡ generation)
take-one [] many place generation one within at = let nil : List ℕ = [] in absurd (omega (arith, length-take many nil))
take-one (x ∷ xs) many place generation one within at =
    let first : many ≡ 1 = omega arith in
    let zero_is : place ≡ 0 = omega (arith, length-take many (x ∷ xs)) in
    (omega arith, sym (ap (λ (n : ℕ). get_or (take n (x ∷ xs)) 0 0) first) ∙ sym (ap (λ (n : ℕ). get_or (take many (x ∷ xs)) n 0) zero_is) ∙ at)

take-none : (found : List ℕ) (many : ℕ) → many ≡ min (length found) 1 → length (take many found) ≡ 0 → length found ≡ 0
take-none found many one none = omega (arith, length-take many found)

module _ (files : Files) (names : List (List ℕ)) (found : List ℕ) (all : IsPermutation (keys files) names) (are : AreGenerations names found) where
  -- a commit that is there is passed, or is not above the one at a place up to which all are passed
  passed-or_below : (place later : ℕ) → place < length found → ArePassed files found place → HasCommitFile files later → IsPassedOver files later ⊎ (later ≤ get_or found place 0)
  passed-or_below place later within passed is = by_place (Contains-place found later (there-found files names all found are later is))
    where
      by_order : (k : ℕ) → k < length found → get_or found k 0 ≡ later → (k < place) ⊎ (place ≤ k) → IsPassedOver files later ⊎ (later ≤ get_or found place 0)
      by_order k short at (inl before) = inl (subst (λ (n : ℕ). IsPassedOver files n) at (passed k before))
      by_order k short at (inr behind) = inr (below (cases_lt place k))
        where
          below : (place < k) ⊎ (k ≤ place) → later ≤ get_or found place 0
          below (inl less) = let down : get_or found k 0 ≤ get_or found place 0 = are.fall place k 0 less short in omega arith
          below (inr least) = let same : k ≡ place = omega arith in let value : get_or found k 0 ≡ get_or found place 0 = ap (λ (n : ℕ). get_or found n 0) same in omega arith

      by_place : (k : ℕ) × (k < length found) × (get_or found k 0 ≡ later) → IsPassedOver files later ⊎ (later ≤ get_or found place 0)
      by_place (k, short, at) = by_order k short at (cases_lt k place)

  -- one that is above it is passed
  above-passed : (place later : ℕ) → place < length found → ArePassed files found place → get_or found place 0 < later → HasCommitFile files later → IsPassedOver files later
  above-passed place later within passed less is = by_which (passed-or_below place later within passed is)
    where
      by_which : IsPassedOver files later ⊎ (later ≤ get_or found place 0) → IsPassedOver files later
      by_which (inl was) = was
      by_which (inr below) = absurd (omega arith)

  there-of_good : (generation : ℕ) (commit : CommitValue) → IsGoodCommit files generation commit → HasCommitFile files generation
  there-of_good generation commit good = record { is = good.is; there = good-there files generation commit good.says }

  -- the first generation is the newest
  first-newest : 0 < length found → IsNewest files (get_or found 0 0)
  first-newest some = record {
    here = found-there files names all found are (get_or found 0 0) (Contains-at found 0 some);
    last = λ later less is. by_which later less (passed-or_below 0 later some (λ k none. absurd (omega arith)) is) is;
  }
    where
      by_which : (later : ℕ) → get_or found 0 0 < later → IsPassedOver files later ⊎ (later ≤ get_or found 0 0) → HasCommitFile files later → ⊥
      by_which later less (inr below) is = omega arith
      by_which later less (inl was) is = below (Contains-place found later (there-found files names all found are later is))
        where
          below : (k : ℕ) × (k < length found) × (get_or found k 0 ≡ later) → ⊥
          below (k, short, at) = by_start (cases_lt 0 k)
            where
              by_start : (0 < k) ⊎ (k ≤ 0) → ⊥
              by_start (inl after) = let down : get_or found k 0 ≤ get_or found 0 0 = are.fall 0 k 0 after short in omega arith
              by_start (inr first) = let same : get_or found k 0 ≡ get_or found 0 0 = ap (λ (n : ℕ). get_or found n 0) (let zero_is : k ≡ 0 = omega arith in zero_is) in omega arith

  pub Walks-current : (answer : Result Chosen FolderFault) → Walks files found answer → AnswersCurrent files answer
  Walks-current (Ok chosen) (place, within, at, good, fits, passed) = (current, λ later least is. by_which later least is (passed-or_below place later within passed is))
    where
      current : IsCurrent files chosen.generation chosen.commit
      current = record { good = good; last = λ later other less is. (above-passed place later within passed (omega arith) (there-of_good later other is)).not_good other is }

      by_which : (later : ℕ) → chosen.generation ≤ later → HasCommitFile files later → IsPassedOver files later ⊎ (later ≤ get_or found place 0) → is_too_large files later ≡ false
      by_which later least is (inl was) = was.fits
      by_which later least is (inr below) = let same : later ≡ chosen.generation = omega arith in ap (is_too_large files) same ∙ fits
  Walks-current (Err NoIndex) none = λ generation is. empty (Contains-place found generation (there-found files names all found are generation is))
    where
      empty : {x : ℕ} → (k : ℕ) × (k < length found) × (get_or found k 0 ≡ x) → ⊥
      empty (k, short, at) = omega arith
  Walks-current (Err (FileTooLarge kind)) (is, (place, within, over, passed)) =
      (is, (get_or found place 0, found-there files names all found are (get_or found place 0) (Contains-at found place within), over, λ later less there. above-passed place later within passed less there))
  Walks-current (Err (NotStanding generation fault)) (some, at, has, passed) =
      (subst (λ (n : ℕ). IsNewest files n) at (first-newest some), has, λ other is. by_place other (Contains-place found other (there-found files names all found are other is)))
    where
      by_place : (other : ℕ) → (k : ℕ) × (k < length found) × (get_or found k 0 ≡ other) → IsPassedOver files other
      by_place other (k, short, same) = subst (λ (n : ℕ). IsPassedOver files n) same (passed k short)
  Walks-current (Err Failed) is = tt
  Walks-current (Err OutOfMemory) is = tt

  -- a look at the first one alone
  pub Walks-newest : (answer : Result Chosen FolderFault) (many : ℕ) → many ≡ min (length found) 1 → Walks files (take many found) answer → AnswersNewest files answer
  Walks-newest (Ok chosen) many one (place, within, at, good, fits, passed) =
      let (some, here) : (0 < length found) × (get_or found 0 0 ≡ chosen.generation) = first_at place chosen.generation within at in
      (subst (λ (n : ℕ). IsNewest files n) here (first-newest some), good, fits)
    where
      first_at : (place generation : ℕ) → place < length (take many found) → get_or (take many found) place 0 ≡ generation → (0 < length found) × (get_or found 0 0 ≡ generation)
      first_at place generation within at = take-one found many place generation one within at
  Walks-newest (Err NoIndex) many one none = λ generation is. empty (Contains-place found generation (there-found files names all found are generation is))
    where
      nothing : length found ≡ 0
      nothing = take-none found many one none

      empty : {x : ℕ} → (k : ℕ) × (k < length found) × (get_or found k 0 ≡ x) → ⊥
      empty (k, short, at) = omega (arith, nothing)
  Walks-newest (Err (FileTooLarge kind)) many one (is, (place, within, over, passed)) =
      let (some, here) : (0 < length found) × (get_or found 0 0 ≡ get_or (take many found) place 0) = take-one found many place (get_or (take many found) place 0) one within refl in
      (is, (get_or found 0 0, first-newest some, ap (is_too_large files) here ∙ over))
  Walks-newest (Err (NotStanding generation fault)) many one (some, at, has, passed) =
      let (there, here) : (0 < length found) × (get_or found 0 0 ≡ generation) = take-one found many 0 generation one some at in
      (subst (λ (n : ℕ). IsNewest files n) here (first-newest there), has, subst (λ (n : ℕ). IsPassedOver files n) at (passed 0 some))
  Walks-newest (Err Failed) many one is = tt
  Walks-newest (Err OutOfMemory) many one is = tt

-- what says that there is no index says it of other generations, as many of them
pub IsNoIndex-other : (answer : Result Chosen FolderFault) (some others : List ℕ) → (some ≡ [] → others ≡ []) → (others ≡ [] → some ≡ []) → IsNoIndex answer some → IsNoIndex answer others
IsNoIndex-other (Ok chosen) some others there back is = λ none. is (back none)
IsNoIndex-other (Err NoIndex) some others there back is = there is
IsNoIndex-other (Err (FileTooLarge kind)) some others there back is = λ none. is (back none)
IsNoIndex-other (Err (NotStanding generation fault)) some others there back is = λ none. is (back none)
IsNoIndex-other (Err Failed) some others there back is = λ none. is (back none)
IsNoIndex-other (Err OutOfMemory) some others there back is = tt

nothing-is : (xs : List ℕ) → length xs ≡ 0 → xs ≡ []
nothing-is [] none = refl
nothing-is (x ∷ xs) none = absurd (omega arith)

-- as many are listed as are found
pub IsNoIndex-listed : (answer : Result Chosen FolderFault) (names : List (List ℕ)) (found : List ℕ) → AreGenerations names found → IsNoIndex answer found → IsNoIndex answer (listed_generations names)
IsNoIndex-listed answer names found are is =
    let many : length (listed_generations names) ≡ length found = sym (length_permutation (listed_generations names) found are.all) in
    IsNoIndex-other answer found (listed_generations names) (λ none. nothing-is (listed_generations names) (many ∙ ap length none)) (λ none. nothing-is found (sym many ∙ ap length none)) is

-- the first one is there where there is one
pub IsNoIndex-first : (answer : Result Chosen FolderFault) (found : List ℕ) (many : ℕ) → many ≡ min (length found) 1 → IsNoIndex answer (take many found) → IsNoIndex answer found
IsNoIndex-first answer found many one is =
    IsNoIndex-other answer (take many found) found
    (λ none. nothing-is found (take-none found many one (ap length none)))
    (λ none. nothing-is (take many found) (let zero_is : length found ≡ 0 = ap length none in omega (arith, length-take many found)))
    is

-- generations that are found are some
pub found-valid : (names : List (List ℕ)) (found : List ℕ) → AreGenerations names found → All IsGenerationNumber found
found-valid names found are k d within =
    let (text, here, is) : (text : List ℕ) × Contains names text × (generation_in text ≡ Some (get_or found k d)) =
    Contains-filter_map generation_in names (get_or found k d) (Contains-permutation found (listed_generations names) (get_or found k d) (IsPermutation-sym (listed_generations names) found are.all) (there found k d within)) in
    (generation_in-commit text (get_or found k d) is).0
  where
    same : (xs : List ℕ) (k d : ℕ) → k < length xs → get_or xs k (get_or xs k d) ≡ get_or xs k d
    same [] k d short = absurd (omega arith)
    same (x ∷ xs) zero d short = refl
    same (x ∷ xs) (suc k) d short = same xs k d (omega arith)

    there : (xs : List ℕ) (k d : ℕ) → k < length xs → Contains xs (get_or xs k d)
    there xs k d short = (k, short, same xs k d short)

pub All-take : (P : ℕ → Type 0) (xs : List ℕ) (many : ℕ) → All P xs → All P (take many xs)
All-take P xs many all k d within =
    let short : k < length xs = omega (arith, length-take many xs) in
    let front : k < many = omega (arith, length-take many xs) in
    subst P (sym (get_or-take many xs k d front)) (all k d short)
