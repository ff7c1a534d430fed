-- Names of a folder: which commits are there, and which generations are listed.
use Rattle.std.proofs.Common.{◌≡◌, ◌≢◌, ◌⊎◌, ℕ, zero, suc, ◌+◌, ◌<◌, ◌≤◌, Bool, true, false, List, [], ◌∷◌, length, get_or, Option, Some, None, Contains, refl, sym, ap, subst, ◌∙◌, inl, inr, arith}
use Rattle.std.specs.Prelude.{IsPermutation, is_some}
use Rattle.std.specs.List.{filter_map, cons_option, list_any}
use Rattle.std.specs.Ordering.{nat_cmp, eq_by_cmp}
use Rattle.std.specs.Cmp.Lexicographic.{slice_cmp}
use Rattle.std.specs.FinMap.{keys, contains_key-keys}
use Rattle.std.specs.Str.{bytes_eq}
use Rattle.std.proofs.lemmas.List.Sorted.{list_any-IsPermutation, Contains-permutation, IsPermutation-sym}
use Rattle.std.proofs.lemmas.Map.Text.{is_eq-slice_cmp}
use Rattle.std.proofs.lemmas.Map.Views.{Contains-from_any}
use Rattle.std.proofs.lemmas.List.Folds.{list_any_at}
use Rattle.std.proofs.lemmas.Slice.Eq.{bytes_eq-Decides}
use Rattle.lu_dir.specs.Files.{Files, contents}
use Rattle.lu_dir.proofs.Contents.{bytes_eq-same}
use Rattle.segment_infos.specs.declared.naming.LuceneName.{LuceneName}
use Rattle.segment_infos.specs.declared.naming.LuceneName.TheVariants.{Commit, Part, Del, Sep}
use Rattle.segment_infos.specs.LuceneNames.{IsGenerationNumber, lucene_name_in}
use Rattle.segment_infos.specs.Generations.{generation_of, generation_named, generation_in, listed_generations, AreGenerations}
use Rattle.segment_infos.proofs.NameSpelled.{lucene_name_in-SpellsName, SpellsName-lucene_name_in}
use Rattle.lu_folder.specs.ChangeValues.{commit_name}
use Rattle.lu_folder.specs.Commits.{commit_file, HasCommitFile}

-- what a list has with a test is at one of its elements
pub Contains-filter_map : {A B : Type 0} (f : A → Option B) (xs : List A) (y : B) → Contains (filter_map f xs) y → (x : A) × Contains xs x × (f x ≡ Some y)
Contains-filter_map f [] y (k, within, is) = absurd (omega arith)
Contains-filter_map {A} {B} f (x ∷ xs) y among = by_found (f x) refl (λ rest. Contains-filter_map f xs y rest) among
  where
    later : (z : A) × Contains xs z × (f z ≡ Some y) → (z : A) × Contains (x ∷ xs) z × (f z ≡ Some y)
    later (z, (k, within, at), is) = (z, (suc k, omega arith, at), is)

    by_found : (o : Option B) → f x ≡ o → (Contains (filter_map f xs) y → (z : A) × Contains xs z × (f z ≡ Some y)) → Contains (cons_option o (filter_map f xs)) y → (z : A) × Contains (x ∷ xs) z × (f z ≡ Some y)
    by_found None is before rest = later (before rest)
    by_found (Some w) is before (zero, within, same) = (x, (0, omega arith, refl), is ∙ ap Some same)
    by_found (Some w) is before (suc k, within, same) = later (before (k, omega arith, same))

pub filter_map-Contains : {A B : Type 0} (f : A → Option B) (xs : List A) (x : A) (y : B) → Contains xs x → f x ≡ Some y → Contains (filter_map f xs) y
filter_map-Contains f [] x y (k, within, at) is = absurd (omega arith)
filter_map-Contains {A} {B} f (w ∷ xs) x y among is = by_place among (λ rest. filter_map-Contains f xs x y rest is)
  where
    front : (o : Option B) → Contains (filter_map f xs) y → Contains (cons_option o (filter_map f xs)) y
    front None rest = rest
    front (Some z) (k, within, at) = (suc k, omega arith, at)

    head : (o : Option B) → o ≡ Some y → Contains (cons_option o (filter_map f xs)) y
    head None same = absurd (cc)
    head (Some z) same = (0, omega arith, cc)

    by_place : Contains (w ∷ xs) x → (Contains xs x → Contains (filter_map f xs) y) → Contains (cons_option (f w) (filter_map f xs)) y
    by_place (zero, within, same) rest = head (f w) (ap f same ∙ is)
    by_place (suc k, within, at) rest = front (f w) (rest (k, omega arith, at))

-- an element by its place
pub Contains-at : (xs : List ℕ) (k : ℕ) → k < length xs → Contains xs (get_or xs k 0)
Contains-at xs k within = (k, within, same xs k within)
  where
    same : (xs : List ℕ) (k : ℕ) → k < length xs → get_or xs k (get_or xs k 0) ≡ get_or xs k 0
    same [] k short = absurd (omega arith)
    same (x ∷ xs) zero short = refl
    same (x ∷ xs) (suc k) short = same xs k (omega arith)

-- an element has a place
pub Contains-place : (xs : List ℕ) (x : ℕ) → Contains xs x → (k : ℕ) × (k < length xs) × (get_or xs k 0 ≡ x)
Contains-place xs x (k, within, at) = (k, within, same xs k within ∙ at)
  where
    same : (xs : List ℕ) (k : ℕ) → k < length xs → get_or xs k 0 ≡ get_or xs k x
    same [] k short = absurd (omega arith)
    same (y ∷ ys) zero short = refl
    same (y ∷ ys) (suc k) short = same ys k (omega arith)

-- a text names a commit
generation-of : (name : LuceneName) (generation : ℕ) → generation_of name ≡ Some generation → name ≡ Commit generation
generation-of (Commit one) generation is = ap Commit (cc)
generation-of (Part segment kind) generation is = absurd (cc)
generation-of (Del segment one) generation is = absurd (cc)
generation-of (Sep segment one field) generation is = absurd (cc)

generation-named : (found : Option LuceneName) (generation : ℕ) → generation_named found ≡ Some generation → found ≡ Some (Commit generation)
generation-named None generation is = absurd (cc)
generation-named (Some name) generation is = ap Some (generation-of name generation is)

pub generation_in-commit : (text : List ℕ) (generation : ℕ) → generation_in text ≡ Some generation → IsGenerationNumber generation × (text ≡ commit_name generation)
generation_in-commit text generation is = SpellsName-lucene_name_in text (Commit generation) (generation-named (lucene_name_in text) generation is)

pub commit-generation_in : (generation : ℕ) → IsGenerationNumber generation → generation_in (commit_name generation) ≡ Some generation
commit-generation_in generation valid = ap generation_named (lucene_name_in-SpellsName (commit_name generation) (Commit generation) (valid, refl))

module _ (files : Files) (names : List (List ℕ)) (all : IsPermutation (keys files) names) where
  -- a file is there exactly where its name is listed
  listed : (name : List ℕ) → is_some (contents files name) ≡ list_any (bytes_eq name) names
  listed name =
      contains_key-keys files name
      ∙ list_any-IsPermutation (eq_by_cmp (slice_cmp nat_cmp) name) (keys files) names all
      ∙ ap (λ (test : List ℕ → Bool). list_any test names) (λ i other. is_eq-slice_cmp name other i)

  pub there-named : (name : List ℕ) → contents files name ≢ None → Contains names name
  there-named name there = Contains-from_any {eq = bytes_eq} (λ x y same. (bytes_eq-Decides x y).0 same) name names (sym (listed name) ∙ found (contents files name) there)
    where
      found : (o : Option (List ℕ)) → o ≢ None → is_some o ≡ true
      found None none = absurd (none refl)
      found (Some bytes) some = refl

  pub named-there : (name : List ℕ) → Contains names name → contents files name ≢ None
  named-there name among none = is_not (sym (ap (λ (o : Option (List ℕ)). is_some o) none) ∙ listed name ∙ any_at names among)
    where
      is_not : false ≡ true → ⊥
      is_not e = cc

      any_at : (some : List (List ℕ)) → Contains some name → list_any (bytes_eq name) some ≡ true
      any_at some (k, within, at) = list_any_at (bytes_eq name) some k name within (ap (bytes_eq name) at ∙ bytes_eq-same name)

  pub unnamed-none : (name : List ℕ) → ¬ Contains names name → contents files name ≡ None
  unnamed-none name free = by_found (contents files name) refl
    where
      by_found : (o : Option (List ℕ)) → contents files name ≡ o → o ≡ None
      by_found None is = refl
      by_found (Some bytes) is = absurd (free (there-named name (λ none. some_not_none (sym is ∙ none))))
        where
          some_not_none : Some bytes ≡ None → ⊥
          some_not_none e = cc

  -- generations that are listed are those of the commits that are there
  pub there-listed : (generation : ℕ) → HasCommitFile files generation → Contains (listed_generations names) generation
  there-listed generation is = filter_map-Contains generation_in names (commit_name generation) generation (there-named (commit_name generation) is.there) (commit-generation_in generation is.is)

  pub listed-there : (generation : ℕ) → Contains (listed_generations names) generation → HasCommitFile files generation
  listed-there generation among =
      let (text, here, is) : (text : List ℕ) × Contains names text × (generation_in text ≡ Some generation) = Contains-filter_map generation_in names generation among in
      let (valid, named) : IsGenerationNumber generation × (text ≡ commit_name generation) = generation_in-commit text generation is in
      record { is = valid; there = named-there (commit_name generation) (subst (λ (t : List ℕ). Contains names t) named here) }

  module _ (found : List ℕ) (are : AreGenerations names found) where
    pub there-found : (generation : ℕ) → HasCommitFile files generation → Contains found generation
    there-found generation is = Contains-permutation (listed_generations names) found generation are.all (there-listed generation is)

    pub found-there : (generation : ℕ) → Contains found generation → HasCommitFile files generation
    found-there generation among = listed-there generation (Contains-permutation found (listed_generations names) generation (IsPermutation-sym (listed_generations names) found are.all) among)
