-- What a call asks for, and what it answers where nothing failed.
use Rattle.std.specs.Prelude.{◌≡◌, ◌≢◌, ◌⊎◌, List, ℕ, Option, Some, IsSome}
use Rattle.std.specs.Option.{ForSome}
use Rattle.lu_dir.specs.Files.{Files}
use Rattle.lu_outcomes.specs.declared.status.Status.{Status}
use Rattle.lu_outcomes.specs.declared.status.Status.TheVariants.{NoMemory}
use Rattle.lu_outcomes.specs.declared.outcome.Outcome.{Outcome}
use Rattle.lu_command.specs.Commands.{Meaning, fields, docs, check, show, build, delete, postings, merge, Means}
use Rattle.lu_command.specs.Due.{Due}
use Rattle.lu_outcomes.specs.Outcomes.{IsAnswerOf}
use Rattle.lu_outcomes.specs.Halting.{GaveUp}

-- unless memory ended, the folder asked for is this one
abbrev pub AsksFor : List ℕ → Option (List ℕ) → Status → Type 0
AsksFor path asked status = status ≢ NoMemory → asked ≡ Some path

-- the folder of a meaning
abbrev pub folder_meant : Meaning → List ℕ
folder_meant (fields dir segment) = dir
folder_meant (docs dir segment) = dir
folder_meant (check dir) = dir
folder_meant (show dir) = dir
folder_meant (build dir compound) = dir
folder_meant (delete dir field text) = dir
folder_meant (postings dir field text from) = dir
folder_meant (merge dir compound) = dir

-- the command of this meaning reads the input
abbrev pub ReadsInput : Meaning → Type 0
ReadsInput (build dir compound) = Unit {0}
ReadsInput meaning = ⊥

-- the command of this meaning makes a commit
abbrev pub MakesCommit : Meaning → Type 0
MakesCommit (build dir compound) = Unit {0}
MakesCommit (delete dir field text) = Unit {0}
MakesCommit (merge dir compound) = Unit {0}
MakesCommit meaning = ⊥

-- the command of this meaning prints numbers of steps, which are bounded
abbrev pub CountsSteps : Meaning → Type 0
CountsSteps (postings dir field text from) = Unit {0}
CountsSteps meaning = ⊥

-- the words ask for a command of this kind
abbrev pub AskFor : (Meaning → Type 0) → List (List ℕ) → Type 0
AskFor IsOfKind words = (meaning : Meaning) × Means words meaning × IsOfKind meaning

-- unless memory ended, words with a meaning ask for its folder, and words without one ask for none
pub record Asks (words : List (List ℕ)) (before after : Option (List ℕ)) (status : Status) : Type 0 where
  pub meant : (meaning : Meaning) → Means words meaning → AsksFor (folder_meant meaning) after status
  pub meaningless : ((meaning : Meaning) → ¬ Means words meaning) → after ≡ before

-- where the folder tells its files, and the input what it holds if the words ask for reading it, the answer that is due is given, or the
-- call gave up
abbrev pub Completes : List (List ℕ) → Option Files → Option (List ℕ) → Status → Type 0
Completes words files input answer = ForSome files (λ told. (AskFor ReadsInput words → IsSome input)
    → (outcome : Outcome) → Due words (Some told) input outcome → IsAnswerOf outcome answer ⊎ GaveUp answer)
