-- The names of a folder, sorted, are its names in order.
use Rattle.std.proofs.Common.{◌≡◌, ℕ, ◌+◌, ◌<◌, List, [], ◌∷◌, length, map, string_bytes, get_or, Bool, true, false, T, ◌&&◌, is_lt, refl, sym, ap, subst, ◌∙◌, arith}
use Rattle.std.specs.Prelude.{IsPermutation}
use Rattle.std.specs.declared.cmp.Ordering.{Ordering}
use Rattle.std.specs.declared.cmp.Ordering.TheVariants.{Less, Equal, Greater}
use Rattle.std.specs.declared.string.String.{String}
use Rattle.std.specs.declared.alloc.Global.{Global}
use Rattle.std.specs.Ordering.{nat_cmp, is_eq, ordering_reverse, eq_by_cmp}
use Rattle.std.specs.Cmp.Lexicographic.{slice_cmp, nat_list_cmp_total}
use Rattle.std.specs.List.{AllByRecursion, IsDistinct}
use Rattle.std.specs.List.Sorted.{IsSorted, IsStrictlySortedBy}
use Rattle.std.specs.String.{string_cmp}
use Rattle.std.specs.FinMap.{keys, entries, entries_sorted}
use Rattle.std.specs.FinMap.Entries.{below_all, is_sorted}
use Rattle.std.proofs.lemmas.List.{get_or-map, length-map}
use Rattle.std.proofs.lemmas.List.Sorted.{IsPermutation-map, IsPermutation-sym, IsPermutation-trans, Contains-permutation}
use Rattle.std.proofs.lemmas.Map.Keys.{IsDistinct-from_sorted, IsDistinct-IsPermutation, apart_from_distinct, sorted_from_all_adjacent}
use Rattle.lu_dir.specs.Files.{Files}
use Rattle.lu_dir.specs.Loading.{texts}
use Rattle.lu_model.proofs.Among.{in-from_contains, contains-from_in}
use Rattle.lu_model.proofs.Ordered.{one_rising}

-- the order of names, and whether two tie by it
abbrev pub name_cmp : List ℕ → List ℕ → Ordering
name_cmp = slice_cmp nat_cmp

abbrev pub ties : List ℕ → List ℕ → Bool
ties = eq_by_cmp name_cmp

-- ---- the keys of a map rise

first : (a b : Bool) → T (a && b) → T a
first true b both = tt
first false b both = both

second : (a b : Bool) → T (a && b) → T b
second true b both = both
second false b both = absurd both

less : (order : Ordering) → T (is_lt order) → order ≡ Less
less Less lt = refl
less Equal lt = absurd lt
less Greater lt = absurd lt

below-keys : (name : List ℕ) (es : List (List ℕ × List ℕ)) → T (below_all name_cmp name es) → AllByRecursion (λ other. name_cmp name other ≡ Less) (map (λ e. e.0) es)
below-keys name [] below = tt
below-keys name (e ∷ es) below = (less (name_cmp name e.0) (first _ _ below), below-keys name es (second (is_lt (name_cmp name e.0)) _ below))

entries-rise : (es : List (List ℕ × List ℕ)) → T (is_sorted name_cmp es) → IsStrictlySortedBy name_cmp (map (λ e. e.0) es)
unfolding IsStrictlySortedBy
entries-rise [] sorted = tt
entries-rise (e ∷ es) sorted = (below-keys e.0 es (first _ _ sorted), entries-rise es (second (below_all name_cmp e.0 es) _ sorted))

keys-rise : (files : Files) → IsStrictlySortedBy name_cmp (keys files)
keys-rise files = entries-rise (entries files) (entries_sorted files)

-- ---- sorted names that differ rise

-- what neither ties nor is above is below
below-neither : (order : Ordering) → is_lt (ordering_reverse order) ≡ false → is_eq order ≡ false → order ≡ Less
below-neither Less above tied = refl
below-neither Equal above tied = let no : true ≡ false = tied in absurd (cc)
below-neither Greater above tied = let no : true ≡ false = above in absurd (cc)

same_reversed : (order : Ordering) → is_eq (ordering_reverse order) ≡ is_eq order
same_reversed Less = refl
same_reversed Equal = refl
same_reversed Greater = refl

ties-turned : (a b : List ℕ) → ties a b ≡ ties b a
ties-turned a b = ap is_eq (nat_list_cmp_total.antisymm a b) ∙ same_reversed (name_cmp b a)

-- a name is not above the next
next-above : (names : List (String Global)) (name : String Global) (k : ℕ) → IsSorted string_cmp names → k + 1 < length names → is_lt (name_cmp (get_or (texts names) (k + 1) []) (get_or (texts names) k [])) ≡ false
next-above names name k sorted within =
    ap (λ (text : List ℕ). is_lt (name_cmp text (get_or (texts names) k []))) (get_or-map string_bytes names (k + 1) name [] within)
    ∙ ap (λ (text : List ℕ). is_lt (name_cmp (string_bytes (get_or names (k + 1) name)) text)) (get_or-map string_bytes names k name [] (omega (arith, within)))
    ∙ sorted k name (omega arith) within

texts-adjacent : (names : List (String Global)) → IsSorted string_cmp names → IsDistinct ties (texts names) → (k : ℕ) → k + 1 < length (texts names) → name_cmp (get_or (texts names) k []) (get_or (texts names) (k + 1) []) ≡ Less
texts-adjacent [] sorted distinct k within = absurd (omega (arith, within))
texts-adjacent (name ∷ names) sorted distinct k within =
    let here = get_or (texts (name ∷ names)) k [] in
    let next = get_or (texts (name ∷ names)) (k + 1) [] in
    below-neither (name_cmp here next)
    (ap is_lt (sym (nat_list_cmp_total.antisymm next here)) ∙ next-above (name ∷ names) name k sorted (subst (λ (n : ℕ). k + 1 < n) (length-map (name ∷ names) string_bytes) within))
    (apart_from_distinct ties (texts (name ∷ names)) k (k + 1) [] distinct (omega arith) within)

texts-rise : (names : List (String Global)) → IsSorted string_cmp names → IsDistinct ties (texts names) → IsStrictlySortedBy name_cmp (texts names)
texts-rise names sorted distinct = sorted_from_all_adjacent nat_list_cmp_total (texts names) [] (texts-adjacent names sorted distinct)

-- the names of a folder, sorted, are its keys
pub texts-sorted : (files : Files) (names sorted : List (String Global)) → IsPermutation (keys files) (texts names) → IsPermutation names sorted → IsSorted string_cmp sorted → texts sorted ≡ keys files
texts-sorted files names sorted listed moved rising =
    let all : IsPermutation (keys files) (texts sorted) = IsPermutation-trans (keys files) (texts names) (texts sorted) listed (IsPermutation-map string_bytes names sorted moved) in
    let distinct : IsDistinct ties (texts sorted) = IsDistinct-IsPermutation ties ties-turned (keys files) (texts sorted) all (IsDistinct-from_sorted name_cmp (keys files) (keys-rise files)) in
    one_rising name_cmp nat_list_cmp_total (texts sorted) (keys files) (texts-rise sorted rising distinct) (keys-rise files) (record {
      to = λ name among. in-from_contains name (keys files) (Contains-permutation (texts sorted) (keys files) name (IsPermutation-sym (keys files) (texts sorted) all) (contains-from_in name (texts sorted) among));
      from = λ name among. in-from_contains name (texts sorted) (Contains-permutation (keys files) (texts sorted) name all (contains-from_in name (keys files) among));
    })
