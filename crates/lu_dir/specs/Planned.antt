-- Failures on demand: which call of a folder fails, and what it leaves.
use Rattle.std.specs.Prelude.{◌≡◌, ℕ, ◌+◌, ◌==◌, nat_le, List, [], ◌∷◌, take, Option, Some, None, Result, Ok, Err, IsSome, IsErr, IsErrOf, if◌then◌else◌}
use Rattle.std.specs.Option.{option_map_or}
use Rattle.lu_dir.specs.Faults.{last_count}
use Rattle.lu_dir.specs.Files.{Files, with_file, without_file, with_patch}
use Rattle.lu_dir.specs.Folder.{Folder}
use Rattle.lu_dir.specs.declared.fail.DirFail.{DirFail}
use Rattle.lu_dir.specs.declared.fail.DirFail.TheVariants.{Failed}
use Rattle.lu_dir.specs.declared.plan.Left.{Left}
use Rattle.lu_dir.specs.declared.plan.Left.TheVariants.{Before, Absent, Prefix}
use Rattle.lu_dir.specs.declared.plan.Fail.{Fail}

-- one more, or the last count once there
abbrev pub next_count : ℕ → ℕ
next_count count = (if count == last_count then last_count else count + 1)

-- a folder, the calls that are to fail, from which call on every one is to, how many were made, and how many failed
pub record Planned : Type 0 where
  pub folder : Folder
  pub fails : List Fail
  pub stop : Option ℕ
  pub calls : ℕ
  pub faults : ℕ

-- what a call that fails by `stop` leaves
abbrev pub stopped : Option ℕ → ℕ → Option Left
stopped None call = None
stopped (Some first) call = (if nat_le first call then Some Before else None)

-- what a call leaves, where it is to fail: by the first entry that names it, else by `stop`
abbrev pub failure_of : List Fail → Option ℕ → ℕ → Option Left
failure_of [] stop call = stopped stop call
failure_of (fail ∷ fails) stop call = (if fail.call == call then Some fail.left else failure_of fails stop call)

-- what the next call leaves, where it is to fail
abbrev pub next_failure : Planned → Option Left
next_failure planned = failure_of planned.fails planned.stop (next_count planned.calls)

-- what a failed `create` leaves
abbrev pub left_by_create : Left → List ℕ → List ℕ → Files → Files
left_by_create Before name bytes files = files
left_by_create Absent name bytes files = without_file name files
left_by_create (Prefix count) name bytes files = with_file name (take count bytes) files

-- what a failed `patch` leaves
abbrev pub left_by_patch : Left → List ℕ → ℕ → List ℕ → Files → Files
left_by_patch (Prefix count) name at bytes files = with_patch name at (take count bytes) files
left_by_patch _ name at bytes files = files

-- what a failed `remove` leaves
abbrev pub left_by_remove : Left → List ℕ → Files → Files
left_by_remove Absent name files = without_file name files
left_by_remove _ name files = files

-- a failed `create` that leaves this has to keep bytes
abbrev pub KeepsBytes : Left → Type 0
KeepsBytes (Prefix count) = Unit {0}
KeepsBytes _ = ⊥

-- a failed `create` left what it was to leave; or it had no memory for the bytes that it was to keep, and left the files as before
pub data PlannedCreate (left : Left) (name bytes : List ℕ) (old new : Files) : Type 0 where
  left_as_planned : new ≡ left_by_create left name bytes old → PlannedCreate left name bytes old new
  no_room : KeepsBytes left → new ≡ old → PlannedCreate left name bytes old new

-- the count of failures after an answer
abbrev pub faults_after : {T : Type 0} → Result T DirFail → ℕ → ℕ
faults_after (Err Failed) faults = next_count faults
faults_after _ faults = faults

-- the call was counted, with its failure if it failed; it fails where it is to and nowhere else
pub record IsPlanned {T : Type 0} (old new : Planned) (result : Result T DirFail) : Type 0 where
  pub calls : new.calls ≡ next_count old.calls
  pub faults : new.faults ≡ faults_after result old.faults
  pub fails : new.fails ≡ old.fails
  pub stop : new.stop ≡ old.stop
  pub due : IsSome (next_failure old) → IsErr result
  pub failed : IsErrOf result Failed → IsSome (next_failure old)

-- the answer of a call that takes no memory: the failure where it is to fail, else this value
abbrev pub planned_answer : {T : Type 0} → Planned → T → Result T DirFail
planned_answer planned value = option_map_or (λ _. Err Failed) (next_failure planned) (Ok value)

-- the same with these files in the folder
abbrev pub with_files : Files → Planned → Planned
with_files files planned = record planned { folder = record { files = files; asked = planned.folder.asked } }
