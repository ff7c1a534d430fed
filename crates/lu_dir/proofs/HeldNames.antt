-- The names of the files of an ordered map.
use Rattle.std.proofs.Common.{◌≡◌, ℕ, List, [], ◌∷◌, ◌++◌, Bool, true, false, refl, sym, ap, subst, ◌∙◌, map, string_bytes, Less, append_assoc, T, ◌&&◌}
use Rattle.std.specs.declared.string.String.{String}
use Rattle.std.specs.declared.vec.Vec.{Vec}
use Rattle.std.specs.declared.alloc.Global.{Global}
use Rattle.std.specs.Ordering.{nat_cmp, is_lt}
use Rattle.std.specs.Cmp.Lexicographic.{slice_cmp, nat_list_cmp_total}
use Rattle.std.specs.List.{AllByRecursion}
use Rattle.std.specs.List.Sorted.{IsStrictlySortedBy}
use Rattle.std.specs.String.{string_cmp}
use Rattle.std.proofs.lemmas.List.{map-append}
use Rattle.std.specs.Map.{keys_of}
use Rattle.std.specs.BTreeMap as tree
use Rattle.std.specs.BTreeMap.{BTreeMap, IsOrdered}
use Rattle.std.specs.FinMap.{keys, from_sorted, is_sorted, get-from_entries, get-from_sorted, entries-from_sorted, same_map, nat_cmp-IsAntisymmetric, slice_cmp-IsAntisymmetric}
use Rattle.std.specs.FinMap.Entries.{below_all}
use Rattle.lu_dir.specs.FileMap.{named_bytes, files_of}

both : (a b : Bool) → T a → T b → T (a && b)
both true b p q = q
both false b p q = p

below_named : (name : String Global) (held : List (String Global × Vec ℕ Global)) → AllByRecursion (λ other. string_cmp name other ≡ Less) (keys_of held) → T (below_all (slice_cmp nat_cmp) (string_bytes name) (named_bytes held))
below_named name [] below = tt
below_named name (entry ∷ held) below = both (is_lt (slice_cmp nat_cmp (string_bytes name) (string_bytes entry.0))) _ (subst (λ order. T (is_lt order)) (sym below.0) tt) (below_named name held below.1)

sorted_named : (held : List (String Global × Vec ℕ Global)) → IsStrictlySortedBy string_cmp (keys_of held) → T (is_sorted (slice_cmp nat_cmp) (named_bytes held))
unfolding IsStrictlySortedBy
sorted_named [] sorted = tt
sorted_named (entry ∷ held) sorted = both _ _ (below_named entry.0 held sorted.0) (sorted_named held sorted.1)

names_named : (held : List (String Global × Vec ℕ Global)) → map (λ file. file.0) (named_bytes held) ≡ map string_bytes (keys_of held)
names_named [] = refl
names_named (entry ∷ held) = ap (λ names. string_bytes entry.0 ∷ names) (names_named held)

-- the names of a map's files are the bytes of its keys
pub keys-files_of : (held : BTreeMap (String Global) (Vec ℕ Global)) → IsOrdered string_cmp held → keys (files_of held) ≡ map string_bytes (tree.keys held)
keys-files_of held sorted =
    let rising : T (is_sorted (slice_cmp nat_cmp) (named_bytes held.entries)) = sorted_named held.entries sorted in
    ap keys (same_map nat_list_cmp_total (slice_cmp-IsAntisymmetric nat_cmp-IsAntisymmetric) (files_of held) (from_sorted (named_bytes held.entries))
    (λ name. get-from_entries nat_list_cmp_total (named_bytes held.entries) name ∙ sym (get-from_sorted (slice_cmp nat_cmp) (named_bytes held.entries) name rising)))
    ∙ ap (map (λ file. file.0)) (entries-from_sorted (slice_cmp nat_cmp) (named_bytes held.entries) rising)
    ∙ names_named held.entries

-- one name more is listed, and one less is left
pub names-push : (listed after : List (String Global)) (copy name : String Global) (left rest : List (String Global)) (names : List (List ℕ)) → after ≡ listed ++ copy ∷ [] → left ≡ name ∷ rest → string_bytes copy ≡ string_bytes name
    → map string_bytes listed ++ map string_bytes left ≡ names → map string_bytes after ++ map string_bytes rest ≡ names
names-push listed after copy name left rest names pushed taken same before =
    ap (λ (all : List (String Global)). map string_bytes all ++ map string_bytes rest) pushed
    ∙ ap (λ (all : List (List ℕ)). all ++ map string_bytes rest) (map-append string_bytes listed (copy ∷ []))
    ∙ append_assoc (map string_bytes listed) (string_bytes copy ∷ []) (map string_bytes rest)
    ∙ ap (λ (bytes : List ℕ). map string_bytes listed ++ bytes ∷ map string_bytes rest) same
    ∙ ap (λ (all : List (String Global)). map string_bytes listed ++ map string_bytes all) (sym taken)
    ∙ before
