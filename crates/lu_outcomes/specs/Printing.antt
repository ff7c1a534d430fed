-- What is printed with each answer.
use Rattle.std.specs.Prelude.{◌≡◌, ◌≢◌, ◌⊎◌, ℕ, ◌<◌, List, ◌++◌, length, take, Option}
use Rattle.lu_outcomes.specs.declared.status.Status.{Status}
use Rattle.lu_outcomes.specs.declared.status.Status.TheVariants.{Device, NoMemory, LeftBehind}
use Rattle.lu_outcomes.specs.declared.status.Which.TheVariants.{Dir, Source, Sink}
use Rattle.lu_outcomes.specs.declared.outcome.Effect.TheVariants.{Nothing}
use Rattle.lu_outcomes.specs.declared.outcome.Outcome.{Outcome}
use Rattle.lu_outcomes.specs.Outcomes.{IsTextOf}
use Rattle.lu_outcomes.specs.Texts.{left_behind_text}
use Rattle.lu_outcomes.specs.Telling.{Took}

-- what was printed with an answer, where `IsDue` says which outcome is due
abbrev pub Prints : (Outcome → Type 0) → Status → Option (List ℕ) → Option (List ℕ) → Type 0
-- nothing where the folder failed
Prints IsDue (Device Dir) before after = after ≡ before
-- nor where the input failed
Prints IsDue (Device Source) before after = after ≡ before
-- a strict prefix of the text that is due where the output failed
Prints IsDue (Device Sink) before after = (outcome : Outcome) × IsDue outcome
    × ((text : List ℕ) × IsTextOf outcome text × ((count : ℕ) × (count < length text) × Took (take count text) before after))
-- a prefix of it where memory ended, or nothing
Prints IsDue NoMemory before after = (after ≡ before) ⊎ ((outcome : Outcome) × IsDue outcome
    × ((text : List ℕ) × IsTextOf outcome text × ((count : ℕ) × Took (take count text) before after)))
-- the whole text and the line after it where names without use may be left: of an outcome with an effect
Prints IsDue LeftBehind before after = (outcome : Outcome) × IsDue outcome × (outcome.effect ≢ Nothing)
    × Took (outcome.text ++ left_behind_text) before after
-- the whole text with an answer that is due
Prints IsDue answer before after = (outcome : Outcome) × IsDue outcome × (answer ≡ outcome.status) × Took outcome.text before after
