-- A folder of the system, which does not tell its files, and what it answers to errors of the system.
use Rattle.std.specs.Prelude.{ℕ, List, ◌∷◌, ◌++◌, Option, Some, None, Result, Ok, Err}
use Rattle.std.specs.IoError.{error_kind}
use Rattle.std.specs.declared.io.Error.{Error}
use Rattle.std.specs.declared.io.ErrorKind.{ErrorKind}
use Rattle.std.specs.declared.io.ErrorKind.TheVariants as kinds
use Rattle.lu_dir.specs.declared.fail.DirFail.{DirFail}
use Rattle.lu_dir.specs.declared.fail.DirFail.TheVariants as fails

-- the path last asked for, and how often the device failed
pub record Host : Type 0 where
  pub asked : Option (List ℕ)
  pub faults : ℕ

-- the path of a file in the folder at a path; without one, in the current folder
abbrev pub path_of : Option (List ℕ) → List ℕ → List ℕ
path_of None name = name
path_of (Some folder) name = folder ++ 47 ∷ name

-- what an error of this kind is to a caller: want of memory, or else a failure
abbrev pub fail_of : ErrorKind → DirFail
fail_of kinds.OutOfMemory = fails.OutOfMemory
fail_of _ = fails.Failed

-- the answer of a call of the system that changes nothing where it fails
abbrev pub told_answer : {T : Type 0} → Result T Error → Result T DirFail
told_answer (Ok value) = Ok value
told_answer (Err error) = Err (fail_of (error_kind error))

-- the answer of a call of the system that may have changed a file where it failed
abbrev pub told_change : {T : Type 0} → Result T Error → Result T DirFail
told_change (Ok value) = Ok value
told_change (Err error) = Err fails.Failed
