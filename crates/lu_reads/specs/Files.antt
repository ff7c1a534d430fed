-- The files of a segment as a command finds them.
use Rattle.std.specs.Prelude.{◌≡◌, ℕ, List, [], ◌∷◌, map, All, Option, Some, None, if◌then◌else◌}
use Rattle.std.specs.Option.{ForSome}
use Rattle.lu_dir.specs.Files.{Files, contents}
use Rattle.lu_dir.specs.Loading.{IsLoadable, is_over}
use Rattle.lu_folder.specs.Limits.{file_limit}
use Rattle.lu_types.specs.Names.{part_name}
use Rattle.lu_types.specs.declared.kind.FileKind.{FileKind}

-- the first of these kinds whose file is too long
abbrev pub first_too_long : Files → List ℕ → List FileKind → Option FileKind
first_too_long files segment [] = None
first_too_long files segment (kind ∷ kinds) = if is_over file_limit (contents files (part_name segment kind)) then Some kind else first_too_long files segment kinds

-- the names of the segment's files of these kinds
abbrev pub part_names : List ℕ → List FileKind → List (List ℕ)
part_names segment kinds = map (part_name segment) kinds

-- this was found of the segment's files of these kinds, in order: what the folder has, if it tells its files; each is made of bytes and not too long
pub record AreFound (files : Option Files) (segment : List ℕ) (kinds : List FileKind) (found : List (Option (List ℕ))) : Type 0 where
  pub told : ForSome files (λ told. found ≡ map (contents told) (part_names segment kinds))
  pub each : All (IsLoadable file_limit) found
