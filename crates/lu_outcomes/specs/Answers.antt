-- How a call answers, by the outcome that is due.
use Rattle.std.specs.Prelude.{◌≡◌, ◌⊎◌, ℕ, ◌<◌, List, ◌++◌, length, take, Option}
use Rattle.std.specs.Option.{option_map}
use Rattle.lu_dir.specs.Files.{Files}
use Rattle.lu_outcomes.specs.declared.status.Status.{Status}
use Rattle.lu_outcomes.specs.declared.status.Status.TheVariants.{Device, NoMemory, LeftBehind}
use Rattle.lu_outcomes.specs.declared.status.Which.TheVariants.{Dir, Source, Sink}
use Rattle.lu_outcomes.specs.declared.outcome.Outcome.{Outcome}
use Rattle.lu_outcomes.specs.Effects.{standing, IsStoppedEffect, IsMadeEffect}
use Rattle.lu_outcomes.specs.Texts.{left_behind_text}
use Rattle.lu_outcomes.specs.Telling.{Took}

-- the answer of a call that was given up: the folder failed, or memory ended
abbrev pub IsGivenUp : Status → Type 0
IsGivenUp answer = (answer ≡ Device Dir) ⊎ (answer ≡ NoMemory)

-- the answer says that the folder failed
abbrev pub IsDirFault : Status → Type 0
IsDirFault answer = (answer ≡ Device Dir) ⊎ (answer ≡ LeftBehind)

-- a folder and an output, as far as they tell what they hold
pub record Scene : Type 0 where
  pub files : Option Files
  pub taken : Option (List ℕ)

-- the effect of the outcome is made: the folder is the one that is to stand
abbrev pub IsDone : Outcome → Option Files → Option Files → Type 0
IsDone outcome old new = new ≡ option_map (standing outcome.effect) old

-- an outcome ends, with an answer and a text: it is done, and they are its own; or its commit is made, the folder failed, and names
-- without use may be left
pub data Ends (outcome : Outcome) (Failed : Type 0) (old new : Option Files) (answer : Status) (text : List ℕ) : Type 0 where
  done : answer ≡ outcome.status → text ≡ outcome.text → IsDone outcome old new → Ends outcome Failed old new answer text
  behind : answer ≡ LeftBehind → text ≡ outcome.text ++ left_behind_text → IsMadeEffect outcome.effect old new → Failed
      → Ends outcome Failed old new answer text

-- how a call answers, where `IsDue` says which outcome is due and `Failed` that the folder failed
pub data Answers (IsDue : Outcome → Type 0) (Failed : Type 0) (before after : Scene) (answer : Status) : Type 0 where
  -- an outcome that is due ends, and its text is printed whole
  told : (outcome : Outcome) (text : List ℕ) → IsDue outcome → Ends outcome Failed before.files after.files answer text
      → Took text before.taken after.taken → Answers IsDue Failed before after answer
  -- it ends, and the output fails: it took a strict prefix of the text
  output_failed : (outcome : Outcome) (status : Status) (text : List ℕ) (count : ℕ) → IsDue outcome
      → Ends outcome Failed before.files after.files status text → answer ≡ Device Sink → count < length text
      → Took (take count text) before.taken after.taken → Answers IsDue Failed before after answer
  -- it ends, and memory ends while its text is printed
  printing_ended : (outcome : Outcome) (status : Status) (text : List ℕ) (count : ℕ) → IsDue outcome
      → Ends outcome Failed before.files after.files status text → answer ≡ NoMemory
      → Took (take count text) before.taken after.taken → Answers IsDue Failed before after answer
  -- its commit is made, memory ends behind it, and nothing is printed
  removing_ended : (outcome : Outcome) → IsDue outcome → IsMadeEffect outcome.effect before.files after.files → answer ≡ NoMemory
      → after.taken ≡ before.taken → Answers IsDue Failed before after answer
  -- its effect is stopped on the way, and nothing is printed
  stopped : (outcome : Outcome) → IsDue outcome → IsStoppedEffect outcome.effect before.files after.files → IsGivenUp answer
      → after.taken ≡ before.taken → Answers IsDue Failed before after answer
  -- nothing is done and nothing printed: the folder or the input failed, or memory ended
  nothing : IsGivenUp answer ⊎ (answer ≡ Device Source) → after.files ≡ before.files → after.taken ≡ before.taken
      → Answers IsDue Failed before after answer
