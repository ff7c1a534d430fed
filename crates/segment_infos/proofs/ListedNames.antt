-- The generations among names, one name after another, and from the greatest down.
use Rattle.std.proofs.Common.{◌≡◌, ℕ, ◌+◌, ◌-◌, ◌<◌, ◌≤◌, List, [], ◌∷◌, ◌++◌, length, take, get_or, map, reverse, Some, None, refl, sym, ap, subst, ◌∙◌, arith}
use Rattle.std.specs.Prelude.{filter_map, string_bytes, IsPermutation, AllPairs}
use Rattle.std.specs.declared.string.String.{String}
use Rattle.std.specs.declared.alloc.Global.{Global}
use Rattle.std.specs.List.Sorted.{IsNonDecreasing, IsSorted}
use Rattle.std.specs.Ordering.{nat_cmp}
use Rattle.std.proofs.lemmas.List.{append-nil, map-append, take_more, length-reverse, get_or-reverse}
use Rattle.std.proofs.lemmas.List.Elements.{filter_map-append}
use Rattle.std.proofs.lemmas.List.Sorted.{IsNonDecreasingBy-from_sort, IsPermutation-reverse, IsPermutation-trans}
use Rattle.segment_infos.specs.Generations.{generation_in, listed_generations, AreGenerations}

-- the texts of some names, and of one more
pub texts-more : (names : List (String Global)) (i : ℕ) (name : String Global) → i < length names → name ≡ get_or names i name → map string_bytes (take (i + 1) names) ≡ map string_bytes (take i names) ++ string_bytes name ∷ []
texts-more names i name within is =
    ap (map string_bytes) (take_more names i name within) ∙ map-append string_bytes (take i names) (get_or names i name ∷ []) ∙ ap (λ (last : String Global). map string_bytes (take i names) ++ string_bytes last ∷ []) (sym is)

-- one name more
pub listed_generations-more : (names : List (String Global)) (i : ℕ) (name : String Global) → i < length names → name ≡ get_or names i name
    → listed_generations (map string_bytes (take (i + 1) names)) ≡ listed_generations (map string_bytes (take i names)) ++ filter_map generation_in (string_bytes name ∷ [])
listed_generations-more names i name within is =
    ap listed_generations (texts-more names i name within is) ∙ filter_map-append generation_in (map string_bytes (take i names)) (string_bytes name ∷ [])

-- numbers that rise fall where they are turned round
pub reversed-fall : (xs : List ℕ) → IsSorted nat_cmp xs → AllPairs (λ generation later. later ≤ generation) (reverse xs)
reversed-fall xs sorted i j d before within =
    let rise : IsNonDecreasing xs = IsNonDecreasingBy-from_sort (λ x. x) xs sorted in
    let many : length (reverse xs) ≡ length xs = length-reverse xs in
    let low : i < length xs = omega arith in
    let high : j < length xs = omega arith in
    let below : get_or xs (length xs - 1 - j) d ≤ get_or xs (length xs - 1 - i) d = rise (length xs - 1 - j) (length xs - 1 - i) d (omega arith) (omega arith) in
    rw (get_or-reverse xs i d low, get_or-reverse xs j d high) below

pub sorted-AreGenerations : (names : List (List ℕ)) (found sorted : List ℕ) → found ≡ listed_generations names → IsPermutation found sorted → IsSorted nat_cmp sorted → AreGenerations names (reverse sorted)
sorted-AreGenerations names found sorted is same rises = record {
  all = IsPermutation-trans (listed_generations names) sorted (reverse sorted) (subst (λ (list : List ℕ). IsPermutation list sorted) is same) (IsPermutation-reverse sorted);
  fall = reversed-fall sorted rises;
}

one-named : (text : List ℕ) (generation : ℕ) → generation_in text ≡ Some generation → filter_map generation_in (text ∷ []) ≡ generation ∷ []
one-named text generation is = rw is refl

one-other : (text : List ℕ) → generation_in text ≡ None → filter_map generation_in (text ∷ []) ≡ []
one-other text is = rw is refl

pub listed-pushed : (names : List (String Global)) (i : ℕ) (name : String Global) (generation : ℕ) (found new : List ℕ) → i < length names → name ≡ get_or names i name → generation_in (string_bytes name) ≡ Some generation
    → found ≡ listed_generations (map string_bytes (take i names)) → new ≡ found ++ generation ∷ [] → new ≡ listed_generations (map string_bytes (take (i + 1) names))
listed-pushed names i name generation found new within is named before pushed =
    pushed ∙ ap (λ (list : List ℕ). list ++ generation ∷ []) before ∙ ap (λ (list : List ℕ). listed_generations (map string_bytes (take i names)) ++ list) (sym (one-named (string_bytes name) generation named))
    ∙ sym (listed_generations-more names i name within is)

pub listed-passed : (names : List (String Global)) (i : ℕ) (name : String Global) (found : List ℕ) → i < length names → name ≡ get_or names i name → generation_in (string_bytes name) ≡ None
    → found ≡ listed_generations (map string_bytes (take i names)) → found ≡ listed_generations (map string_bytes (take (i + 1) names))
listed-passed names i name found within is other before =
    before ∙ sym (append-nil (listed_generations (map string_bytes (take i names)))) ∙ ap (λ (list : List ℕ). listed_generations (map string_bytes (take i names)) ++ list) (sym (one-other (string_bytes name) other))
    ∙ sym (listed_generations-more names i name within is)
