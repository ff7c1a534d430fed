-- The bytes of each name after each change of a folder.
use Rattle.std.proofs.Common.{◌≡◌, ◌≢◌, ℕ, List, true, false, cond, Some, None, refl, ap, ◌∙◌}
use Rattle.std.specs.Str.{bytes_eq}
use Rattle.std.specs.Cmp.Lexicographic.{nat_list_cmp_total}
use Rattle.std.specs.FinMap.{get-insert, get-remove, same_map, nat_cmp-IsAntisymmetric, slice_cmp-IsAntisymmetric}
use Rattle.std.proofs.lemmas.Bool.{cond-true, cond-false, false_from_ne_true}
use Rattle.std.proofs.lemmas.Map.Text.{is_eq-slice_cmp}
use Rattle.std.proofs.lemmas.Slice.Eq.{bytes_eq-Decides}
use Rattle.lu_dir.specs.Files.{Files, contents, with_file, without_file}

-- the bytes of any name after a file was made
pub contents-with_file : (name bytes : List ℕ) (files : Files) (asked : List ℕ) → contents (with_file name bytes files) asked ≡ cond (bytes_eq asked name) (Some bytes) (contents files asked)
contents-with_file name bytes files asked =
    get-insert nat_list_cmp_total files name bytes asked ∙ ap (λ same. cond same (Some bytes) (contents files asked)) (is_eq-slice_cmp asked name)

-- the bytes of any name after a file was removed
pub contents-without_file : (name : List ℕ) (files : Files) (asked : List ℕ) → contents (without_file name files) asked ≡ cond (bytes_eq asked name) None (contents files asked)
contents-without_file name files asked =
    get-remove nat_list_cmp_total files name asked ∙ ap (λ same. cond same None (contents files asked)) (is_eq-slice_cmp asked name)

-- a name is the same as itself
pub bytes_eq-same : (name : List ℕ) → bytes_eq name name ≡ true
bytes_eq-same name = (bytes_eq-Decides name name).1 refl

-- two names that differ
pub bytes_eq-other : (asked name : List ℕ) → asked ≢ name → bytes_eq asked name ≡ false
bytes_eq-other asked name differ = false_from_ne_true (bytes_eq asked name) (λ same. differ ((bytes_eq-Decides asked name).0 same))

-- the bytes of a file that was made
pub contents-with_file-same : (name bytes : List ℕ) (files : Files) → contents (with_file name bytes files) name ≡ Some bytes
contents-with_file-same name bytes files = contents-with_file name bytes files name ∙ cond-true (bytes_eq name name) (Some bytes) (contents files name) (bytes_eq-same name)

-- another file stays when one is made
pub contents-with_file-other : (name bytes : List ℕ) (files : Files) (asked : List ℕ) → asked ≢ name → contents (with_file name bytes files) asked ≡ contents files asked
contents-with_file-other name bytes files asked differ = contents-with_file name bytes files asked ∙ cond-false (bytes_eq asked name) (Some bytes) (contents files asked) (bytes_eq-other asked name differ)

-- a file that was removed is not there
pub contents-without_file-same : (name : List ℕ) (files : Files) → contents (without_file name files) name ≡ None
contents-without_file-same name files = contents-without_file name files name ∙ cond-true (bytes_eq name name) None (contents files name) (bytes_eq-same name)

-- another file stays when one is removed
pub contents-without_file-other : (name : List ℕ) (files : Files) (asked : List ℕ) → asked ≢ name → contents (without_file name files) asked ≡ contents files asked
contents-without_file-other name files asked differ = contents-without_file name files asked ∙ cond-false (bytes_eq asked name) None (contents files asked) (bytes_eq-other asked name differ)

-- files that have the same bytes at each name are the same
pub same_files : (one other : Files) → ((name : List ℕ) → contents one name ≡ contents other name) → one ≡ other
same_files one other same = same_map nat_list_cmp_total (slice_cmp-IsAntisymmetric nat_cmp-IsAntisymmetric) one other same
