-- Files that were loaded, and one that is too long.
use Rattle.std.proofs.Common.{◌≡◌, ℕ, suc, ◌+◌, Bool, true, false, cond, List, [], ◌∷◌, map, All, Option, Some, None, unwrap_or, refl, sym, ap, ◌∙◌, arith}
use Rattle.std.specs.Prelude.{slice_get}
use Rattle.lu_types.specs.declared.kind.FileKind.{FileKind}
use Rattle.lu_types.specs.Names.{part_name}
use Rattle.std.specs.Option.{ForSome, option_map}
use Rattle.lu_dir.specs.Files.{Files, contents}
use Rattle.lu_dir.specs.Loading.{IsLoadable, is_over, first_over}
use Rattle.lu_outcomes.specs.declared.outcome.Outcome.{Outcome}
use Rattle.lu_outcomes.specs.Outcomes.{too_large_outcome}
use Rattle.lu_reads.specs.FilesDue.{IsTooLong}
use Rattle.lu_folder.specs.Limits.{file_limit}
use Rattle.check_index.specs.Files.{file_at}
use Rattle.lu_reads.specs.Files.{first_too_long, part_names, AreFound}

-- files that were loaded by the names of a segment's files
pub AreFound-loaded : (files : Option Files) (segment : List ℕ) (kinds : List FileKind) (names : List (List ℕ)) (found : List (Option (List ℕ))) → names ≡ part_names segment kinds → ForSome files (λ told. found ≡ map (contents told) names) → All (IsLoadable file_limit) found
    → AreFound files segment kinds found
AreFound-loaded files segment kinds names found spelled told each = record { told = λ folder is. told folder is ∙ ap (map (contents folder)) spelled; each = each }

-- what stands at a place
pub file_at-found : (found : List (Option (List ℕ))) (place : ℕ) (file : Option (List ℕ)) → slice_get found place ≡ Some file → file ≡ file_at found place
file_at-found found place file is = sym (ap (λ (there : Option (Option (List ℕ))). unwrap_or there None) is)

-- the kind of the first file that is too long
pub first_kind : (told : Files) (segment : List ℕ) (kinds : List FileKind) (place : ℕ) (kind : FileKind) → first_over told file_limit (map (part_name segment) kinds) ≡ Some place → slice_get kinds place ≡ Some kind
    → first_too_long told segment kinds ≡ Some kind
first_kind told segment [] place kind over stands = absurd cc
first_kind told segment (k ∷ ks) place kind over stands =
    go (is_over file_limit (contents told (part_name segment k))) (first_over told file_limit (map (part_name segment) ks)) refl (λ p. first_kind told segment ks p kind) over
  where
    go : (t : Bool) (o : Option ℕ) → first_over told file_limit (map (part_name segment) ks) ≡ o
        → ((p : ℕ) → first_over told file_limit (map (part_name segment) ks) ≡ Some p → slice_get ks p ≡ Some kind → first_too_long told segment ks ≡ Some kind)
        → cond t (Some 0) (option_map (λ p. p + 1) o) ≡ Some place → cond t (Some k) (first_too_long told segment ks) ≡ Some kind
    go true o is later found = let e : 0 ≡ place = cc in rw (← e) at stands
    go false None is later found = absurd cc
    go false (Some p) is later found =
        let e : p + 1 ≡ place = cc in
        let next : place ≡ suc p = omega arith in
        later p is (rw next at stands)

-- the first file that is too long, as a loading of names told it
pub too_long-first : (files : Option Files) (segment : List ℕ) (kinds : List FileKind) (names : List (List ℕ)) (outcome : Outcome) (place : ℕ) (kind : FileKind) → names ≡ part_names segment kinds
    → ForSome files (λ told. first_over told file_limit names ≡ Some place) → slice_get kinds place ≡ Some kind → outcome ≡ too_large_outcome kind → IsTooLong segment kinds files outcome
too_long-first files segment kinds names outcome place kind spelled over stands is =
    (kind, (λ told tells. first_kind told segment kinds place kind (sym (ap (first_over told file_limit) spelled) ∙ over told tells) stands), is)
