-- What the write that makes a commit final may leave.
use Rattle.std.specs.Prelude.{◌≡◌, ◌⊎◌, ℕ, List, Option, Some, Result, Ok, Err}
use Rattle.lu_dir.specs.Files.{Files, with_file}
use Rattle.lu_dir.specs.declared.fail.DirFail.{DirFail}
use Rattle.lu_dir.specs.declared.fail.DirFail.TheVariants.{Failed}

-- the file is as before, or final
abbrev pub SealLeaves : List ℕ → List ℕ → Files → Files → Type 0
SealLeaves name bytes old new = (new ≡ old) ⊎ (new ≡ with_file name bytes old)

-- the device failed, before the commit was made or after
abbrev pub HasFailed : Result (Option DirFail) DirFail → Type 0
HasFailed result = (result ≡ Err Failed) ⊎ (result ≡ Ok (Some Failed))
