-- What a call answers that came to no outcome, or that gave up.
use Rattle.std.specs.Prelude.{◌≡◌, ◌⊎◌}
use Rattle.lu_dir.specs.declared.fail.DirFail.{DirFail}
use Rattle.lu_dir.specs.declared.fail.DirFail.TheVariants as fails
use Rattle.lu_outcomes.specs.declared.status.Status.{Status}
use Rattle.lu_outcomes.specs.declared.status.Status.TheVariants.{Device, NoMemory}
use Rattle.lu_outcomes.specs.declared.status.Which.TheVariants.{Dir, Source, Sink}
use Rattle.lu_outcomes.specs.declared.halt.Halt.{Halt}
use Rattle.lu_outcomes.specs.declared.halt.Halt.TheVariants as halts
use Rattle.lu_outcomes.specs.declared.outcome.Outcome.{Outcome}
use Rattle.lu_outcomes.specs.Outcomes.{IsAnswerOf}

-- the answer to a failure of the folder
abbrev pub status_of : DirFail → Status
status_of fails.Failed = Device Dir
status_of fails.OutOfMemory = NoMemory

-- the answer of a command that came to no outcome
abbrev pub status_halted : Halt → Status
status_halted halts.Folder = Device Dir
status_halted halts.Input = Device Source
status_halted halts.OutOfMemory = NoMemory

-- the answer says that memory ended, or that the folder, the input or the output failed
abbrev pub GaveUp : Status → Type 0
GaveUp answer = (answer ≡ NoMemory) ⊎ ((answer ≡ Device Dir) ⊎ ((answer ≡ Device Source) ⊎ (answer ≡ Device Sink)))

-- the answer is that of an outcome that is due, or the call gave up
abbrev pub IsAnswered : (Outcome → Type 0) → Status → Type 0
IsAnswered IsDue answer = ((outcome : Outcome) × IsDue outcome × IsAnswerOf outcome answer) ⊎ GaveUp answer
