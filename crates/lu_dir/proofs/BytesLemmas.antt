-- Files that are made of bytes stay so.
use Rattle.std.proofs.Common.{ℕ, ◌+◌, ◌-◌, List, [], ◌++◌, take, drop, length, Bool, true, false, cond, Option, Some, None, refl, sym, subst, unwrap_or, IfSome, inl, inr, arith}
use Rattle.std.specs.Str.{bytes_eq}
use Rattle.std.specs.Ordering.{nat_cmp}
use Rattle.std.specs.Cmp.Lexicographic.{slice_cmp}
use Rattle.std.specs.FinMap.{empty, get-empty}
use Rattle.std.proofs.lemmas.Bool.{cases_lt}
use Rattle.std.proofs.lemmas.List.{get_or_append_left, get_or-append_right}
use Rattle.lu_grammar.specs.Bytes.{IsBytes}
use Rattle.lu_grammar.proofs.Parts.{IsBytes-take, IsBytes-drop}
use Rattle.lu_dir.specs.Files.{Files, contents, with_file, without_file, with_patch, written_over, AreMadeOfBytes}
use Rattle.lu_dir.proofs.Contents.{contents-with_file, contents-without_file}

pub IsBytes-none : IsBytes []
IsBytes-none i = omega arith

pub IsBytes-append : (xs ys : List ℕ) → IsBytes xs → IsBytes ys → IsBytes (xs ++ ys)
IsBytes-append xs ys front back i =
    elim (cases_lt i (length xs)) [
      | inl lt ↦ rw (get_or_append_left xs ys 0 i lt) (front i)
      | inr le ↦ rw (get_or-append_right xs ys (length xs) i 0 refl le) (back (i - length xs))
    ]

-- bytes that are written over bytes
pub IsBytes-written_over : (at : ℕ) (bytes old : List ℕ) → IsBytes bytes → IsBytes old → IsBytes (written_over at bytes old)
IsBytes-written_over at bytes old new was =
    IsBytes-append (take at old ++ bytes) (drop (at + length bytes) old) (IsBytes-append (take at old) bytes (IsBytes-take at old was) new) (IsBytes-drop (at + length bytes) old was)

-- no files
pub AreMadeOfBytes-none : AreMadeOfBytes empty
AreMadeOfBytes-none name = subst (λ (there : Option (List ℕ)). IfSome there IsBytes) (sym (get-empty (slice_cmp nat_cmp) name)) tt

-- a file that is made of bytes
pub AreMadeOfBytes-with_file : (name bytes : List ℕ) (files : Files) → AreMadeOfBytes files → IsBytes bytes → AreMadeOfBytes (with_file name bytes files)
AreMadeOfBytes-with_file name bytes files made fits asked =
    subst (λ (there : Option (List ℕ)). IfSome there IsBytes) (sym (contents-with_file name bytes files asked)) (by_name (bytes_eq asked name) (contents files asked) (made asked))
  where
    by_name : (same : Bool) (old : Option (List ℕ)) → IfSome old IsBytes → IfSome (cond same (Some bytes) old) IsBytes
    by_name true old was = fits
    by_name false old was = was

-- a file that is taken away
pub AreMadeOfBytes-without_file : (name : List ℕ) (files : Files) → AreMadeOfBytes files → AreMadeOfBytes (without_file name files)
AreMadeOfBytes-without_file name files made asked =
    subst (λ (there : Option (List ℕ)). IfSome there IsBytes) (sym (contents-without_file name files asked)) (by_name (bytes_eq asked name) (contents files asked) (made asked))
  where
    by_name : (same : Bool) (old : Option (List ℕ)) → IfSome old IsBytes → IfSome (cond same None old) IsBytes
    by_name true old was = tt
    by_name false old was = was

-- bytes that are written inside a file
pub AreMadeOfBytes-with_patch : (name : List ℕ) (at : ℕ) (bytes : List ℕ) (files : Files) → AreMadeOfBytes files → IsBytes bytes → AreMadeOfBytes (with_patch name at bytes files)
AreMadeOfBytes-with_patch name at bytes files made fits =
    AreMadeOfBytes-with_file name (written_over at bytes (unwrap_or (contents files name) [])) files made (IsBytes-written_over at bytes (unwrap_or (contents files name) []) fits (there (contents files name) (made name)))
  where
    there : (held : Option (List ℕ)) → IfSome held IsBytes → IsBytes (unwrap_or held [])
    there None none = IsBytes-none
    there (Some old) was = was
