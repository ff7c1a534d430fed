-- What a caller has of the files that were loaded, beside the names that were asked for.
use Rattle.std.proofs.Common.{◌≡◌, ℕ, List, [], ◌∷◌, map, Bool, true, false, cond, ◌||◌, Option, Some, None, All, Contains, string_bytes, refl, sym, ap, ◌∙◌}
use Rattle.std.specs.Prelude.{slice_get}
use Rattle.std.specs.Option.{option_map}
use Rattle.std.specs.declared.string.String.{String}
use Rattle.std.specs.declared.alloc.Global.{Global}
use Rattle.std.proofs.lemmas.Option.{slice_get-map}
use Rattle.std.specs.Str.{bytes_eq}
use Rattle.std.proofs.lemmas.Bool.{cond-true, or_right}
use Rattle.std.proofs.lemmas.List.Folds.{list_any_at}
use Rattle.std.proofs.lemmas.List.Elements.{All-nil, All-cons}
use Rattle.std.proofs.lemmas.Slice.Eq.{bytes_eq-Decides}
use Rattle.lu_dir.specs.Files.{Files, contents, AreMadeOfBytes}
use Rattle.lu_dir.specs.Loading.{IsLoadable, found_at, texts}
use Rattle.lu_dir.specs.InnerLoading.{is_named, AreLoaded, AreOnly, HaveAtMost}
use Rattle.lu_dir.proofs.Contents.{bytes_eq-same}

-- an element of a list of names is named
pub is_named-Contains : (names : List (List ℕ)) (name : List ℕ) → Contains names name → is_named names name ≡ true
is_named-Contains names name (place, within, is) = list_any_at (bytes_eq name) names place name within (ap (bytes_eq name) is ∙ bytes_eq-same name)

-- what stands at a name beside names of which each has what is found for it
pub found_at-map : (find : List ℕ → Option (List ℕ)) (names : List (List ℕ)) (asked : List ℕ) → found_at names (map find names) asked ≡ cond (is_named names asked) (find asked) None
found_at-map find [] asked = refl
found_at-map find (name ∷ names) asked = by_name (bytes_eq asked name) refl (found_at-map find names asked)
  where
    by_name : (same : Bool) → bytes_eq asked name ≡ same → found_at names (map find names) asked ≡ cond (is_named names asked) (find asked) None
        → cond same (find name) (found_at names (map find names) asked) ≡ cond (same || is_named names asked) (find asked) None
    by_name true is rest = ap find (sym ((bytes_eq-Decides asked name).0 is))
    by_name false is rest = rest

-- and at one of these names
pub found_at-named : (find : List ℕ → Option (List ℕ)) (names : List (List ℕ)) (asked : List ℕ) → is_named names asked ≡ true → found_at names (map find names) asked ≡ find asked
found_at-named find names asked named = found_at-map find names asked ∙ cond-true (is_named names asked) (find asked) None named

-- what a map holds that has no other files than those asked for
pub found_at-only : (names : List (List ℕ)) (files : Files) (asked : List ℕ) → AreOnly names files → contents files asked ≡ found_at names (map (contents files) names) asked
found_at-only names files asked only = sym (found_at-map (contents files) names asked ∙ by_name (is_named names asked) refl)
  where
    by_name : (named : Bool) → is_named names asked ≡ named → cond named (contents files asked) None ≡ contents files asked
    by_name true is = refl
    by_name false is = sym (only asked is)

-- what a map holds of names that were asked for is what the folder has of them
found-told : (told loaded : Files) (all names : List (List ℕ)) → ((name : List ℕ) → is_named names name ≡ true → is_named all name ≡ true) → AreLoaded told all loaded → map (contents loaded) names ≡ map (contents told) names
found-told told loaded all [] among are = refl
found-told told loaded all (name ∷ names) among are =
    ap (λ (here : Option (List ℕ)). here ∷ map (contents loaded) names) (are name ∙ cond-true (is_named all name) (contents told name) None (among name (ap (λ same. same || is_named names name) (bytes_eq-same name))))
    ∙ ap (λ (rest : List (Option (List ℕ))). contents told name ∷ rest) (found-told told loaded all names (λ other named. among other (or_right (bytes_eq other name) (is_named names other) named)) are)

-- what was found beside all of the names
pub AreLoaded-found : (told loaded : Files) (names : List (List ℕ)) → AreLoaded told names loaded → map (contents loaded) names ≡ map (contents told) names
AreLoaded-found told loaded names are = found-told told loaded names names (λ name named. named) are

-- what was found at a place
pub found-at_place : (files : Files) (names : List (String Global)) (place : ℕ) (name : String Global) → slice_get names place ≡ Some name → slice_get (map (contents files) (texts names)) place ≡ Some (contents files (string_bytes name))
found-at_place files names place name is = slice_get-map (contents files) (texts names) place ∙ ap (option_map (contents files)) (slice_get-map string_bytes names place ∙ ap (option_map string_bytes) is)

-- each is made of bytes, and not too long
pub All-loadable : (limit : ℕ) (loaded : Files) (names : List (List ℕ)) → AreMadeOfBytes loaded → HaveAtMost limit loaded → All (IsLoadable limit) (map (contents loaded) names)
All-loadable limit loaded [] made fits = All-nil (IsLoadable limit)
All-loadable limit loaded (name ∷ names) made fits = All-cons (IsLoadable limit) (contents loaded name) (map (contents loaded) names) (record { bytes = made name; within = fits name }) (All-loadable limit loaded names made fits)
