-- The exit numbers of answers.
use Rattle.std.specs.Prelude.{ℕ}
use Rattle.lu_outcomes.specs.declared.status.Status.{Status}
use Rattle.lu_outcomes.specs.declared.status.Status.TheVariants as statuses

-- the exit number of an answer
abbrev pub code_of : Status → ℕ
code_of statuses.Ok = 0
code_of (statuses.NotStanding generation fault) = 1
code_of statuses.Usage = 2
code_of (statuses.Refused refusal) = 3
code_of (statuses.Device which) = 4
code_of statuses.NoMemory = 5
code_of statuses.NoIndex = 6
code_of statuses.LeftBehind = 7
