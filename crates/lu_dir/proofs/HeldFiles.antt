-- The files of an ordered map, after each change of one entry.
use Rattle.std.proofs.Common.{◌≡◌, ℕ, List, [], ◌∷◌, Bool, true, false, cond, refl, sym, ap, ◌∙◌, Option, Some, None, string_bytes, ◌+◌, ◌≤◌, length, subst, unwrap_or, IsSomeAnd}
use Rattle.std.specs.Option.{option_map}
use Rattle.std.specs.declared.string.String.{String}
use Rattle.std.specs.declared.vec.Vec.{Vec}
use Rattle.std.specs.declared.alloc.Global.{Global}
use Rattle.std.specs.Ordering.{nat_cmp, eq_by_cmp}
use Rattle.std.specs.Cmp.Lexicographic.{slice_cmp, nat_list_cmp_total}
use Rattle.std.specs.Str.{bytes_eq}
use Rattle.std.specs.String.{string_cmp}
use Rattle.std.specs.BTreeMap.{BTreeMap, UpdatesBy, get_by_text, is_at}
use Rattle.std.specs.Map.{lookup}
use Rattle.std.specs.FinMap.{find, get-from_entries, get-insert, get-remove, same_map, nat_cmp-IsAntisymmetric, slice_cmp-IsAntisymmetric}
use Rattle.std.proofs.lemmas.Cmp.{eq_by_cmp_equiv}
use Rattle.std.proofs.lemmas.Map.Text.{btree_map_updates_text, is_eq-slice_cmp}
use Rattle.lu_dir.specs.Files.{Files, contents, with_file, without_file, with_patch, written_over, HasRange}
use Rattle.lu_dir.specs.FileMap.{named_bytes, files_of}

find-named_bytes : (entries : List (String Global × Vec ℕ Global)) (name : List ℕ) → find (slice_cmp nat_cmp) name (named_bytes entries) ≡ option_map (λ bytes. bytes.items) (lookup (is_at (λ key. slice_cmp nat_cmp name (string_bytes key))) entries)
find-named_bytes [] name = refl
find-named_bytes (entry ∷ entries) name =
    elim (eq_by_cmp (slice_cmp nat_cmp) name (string_bytes entry.0))
    as (λ same. cond same (Some entry.1.items) (find (slice_cmp nat_cmp) name (named_bytes entries)) ≡ option_map (λ bytes. bytes.items) (cond same (Some entry.1) (lookup (is_at (λ key. slice_cmp nat_cmp name (string_bytes key))) entries)))
    [ true ↦ refl | false ↦ find-named_bytes entries name ]

-- a file that a map holds is the bytes at its name
pub contents-files_of : (held : BTreeMap (String Global) (Vec ℕ Global)) (name : List ℕ) → contents (files_of held) name ≡ option_map (λ bytes. bytes.items) (get_by_text held name)
contents-files_of held name = get-from_entries nat_list_cmp_total (named_bytes held.entries) name ∙ find-named_bytes held.entries name

names_tie : (one other : List ℕ) → bytes_eq one other ≡ eq_by_cmp (slice_cmp nat_cmp) other one
names_tie one other = sym (is_eq-slice_cmp one other) ∙ (eq_by_cmp_equiv nat_list_cmp_total).symm one other

option_map-cond : (same : Bool) (new : Option (Vec ℕ Global)) (old : Option (Vec ℕ Global)) → option_map (λ bytes. bytes.items) (cond same new old) ≡ cond same (option_map (λ bytes. bytes.items) new) (option_map (λ bytes. bytes.items) old)
option_map-cond true new old = refl
option_map-cond false new old = refl

contents-updates : (name : List ℕ) (old new : BTreeMap (String Global) (Vec ℕ Global)) (value : Option (Vec ℕ Global)) → UpdatesBy string_cmp (λ key. slice_cmp nat_cmp name (string_bytes key)) old new value → (asked : List ℕ)
    → contents (files_of new) asked ≡ cond (eq_by_cmp (slice_cmp nat_cmp) asked name) (option_map (λ bytes. bytes.items) value) (contents (files_of old) asked)
contents-updates name old new value updates asked =
    contents-files_of new asked
    ∙ ap (option_map (λ bytes. bytes.items)) (btree_map_updates_text name old new value updates asked)
    ∙ option_map-cond (bytes_eq name asked) value (get_by_text old asked)
    ∙ ap (λ same. cond same (option_map (λ bytes. bytes.items) value) (option_map (λ bytes. bytes.items) (get_by_text old asked))) (names_tie name asked)
    ∙ ap (λ there. cond (eq_by_cmp (slice_cmp nat_cmp) asked name) (option_map (λ bytes. bytes.items) value) there) (sym (contents-files_of old asked))

-- an entry that was put is a file that was made
pub files_of-put : (name : List ℕ) (old new : BTreeMap (String Global) (Vec ℕ Global)) (bytes : Vec ℕ Global) → UpdatesBy string_cmp (λ key. slice_cmp nat_cmp name (string_bytes key)) old new (Some bytes) → files_of new ≡ with_file name bytes.items (files_of old)
files_of-put name old new bytes updates =
    same_map nat_list_cmp_total (slice_cmp-IsAntisymmetric nat_cmp-IsAntisymmetric) (files_of new) (with_file name bytes.items (files_of old))
    (λ asked. contents-updates name old new (Some bytes) updates asked ∙ sym (get-insert nat_list_cmp_total (files_of old) name bytes.items asked))

-- an entry that was taken out is a file that was removed
pub files_of-removed : (name : List ℕ) (old new : BTreeMap (String Global) (Vec ℕ Global)) → UpdatesBy string_cmp (λ key. slice_cmp nat_cmp name (string_bytes key)) old new None → files_of new ≡ without_file name (files_of old)
files_of-removed name old new updates =
    same_map nat_list_cmp_total (slice_cmp-IsAntisymmetric nat_cmp-IsAntisymmetric) (files_of new) (without_file name (files_of old))
    (λ asked. contents-updates name old new None updates asked ∙ sym (get-remove nat_list_cmp_total (files_of old) name asked))

-- a range of a file lies within the bytes that the map holds
pub range_held : (held : BTreeMap (String Global) (Vec ℕ Global)) (files : Files) (name : List ℕ) (at count : ℕ) (bytes : Vec ℕ Global) → files_of held ≡ files → get_by_text held name ≡ Some bytes → HasRange files name at count → at + count ≤ length bytes.items
range_held held files name at count bytes shown found range =
    let P : Option (List ℕ) → Type 0 = λ there. IsSomeAnd there (λ found. at + count ≤ length found) in
    subst P (contents-files_of held name ∙ ap (option_map (λ bytes. bytes.items)) found) (subst (λ (seen : Files). HasRange seen name at count) (sym shown) range)

-- a name that the map does not hold has no range
pub no_range_held : (held : BTreeMap (String Global) (Vec ℕ Global)) (files : Files) (name : List ℕ) (at count : ℕ) → files_of held ≡ files → get_by_text held name ≡ None → HasRange files name at count → ⊥
no_range_held held files name at count shown found range =
    let P : Option (List ℕ) → Type 0 = λ there. IsSomeAnd there (λ found. at + count ≤ length found) in
    subst P (contents-files_of held name ∙ ap (option_map (λ bytes. bytes.items)) found) (subst (λ (seen : Files). HasRange seen name at count) (sym shown) range)

-- bytes that were written over those of an entry are a patch of its file
pub files_of-patched : (name : List ℕ) (held new : BTreeMap (String Global) (Vec ℕ Global)) (files : Files) (at : ℕ) (bytes : List ℕ) (before after : Vec ℕ Global) → files_of held ≡ files → get_by_text held name ≡ Some before → after.items ≡ written_over at bytes before.items
    → UpdatesBy string_cmp (λ key. slice_cmp nat_cmp name (string_bytes key)) held new (Some after) → files_of new ≡ with_patch name at bytes files
files_of-patched name held new files at bytes before after shown found written updates =
    files_of-put name held new after updates
    ∙ ap (λ new_bytes. with_file name new_bytes (files_of held)) (written ∙ ap (λ there. written_over at bytes (unwrap_or there [])) (sym (contents-files_of held name ∙ ap (option_map (λ bytes. bytes.items)) found)))
    ∙ ap (with_patch name at bytes) shown
