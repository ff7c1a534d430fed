-- What a command comes to where nothing fails: an answer, a text, and an effect on the folder.
use Rattle.std.specs.Prelude.{◌≡◌, ◌≢◌, ◌⊎◌, ℕ, List, ◌++◌, Option}
use Rattle.std.specs.Option.{ForSome}
use Rattle.lu_dir.specs.Files.{Files}
use Rattle.lu_types.specs.declared.kind.FileKind.{FileKind}
use Rattle.lu_types.specs.declared.fault.Spot.{Spot}
use Rattle.lu_outcomes.specs.declared.status.Status.{Status}
use Rattle.lu_outcomes.specs.declared.status.Status.TheVariants.{Ok, NotStanding, Usage, Refused, Device, NoMemory, LeftBehind}
use Rattle.lu_outcomes.specs.declared.status.Refusal.TheVariants.{FileTooLarge}
use Rattle.lu_outcomes.specs.declared.outcome.Effect.TheVariants.{Nothing}
use Rattle.lu_outcomes.specs.declared.outcome.Outcome.{Outcome}
use Rattle.lu_outcomes.specs.Effects.{LosesNothing}
use Rattle.lu_outcomes.specs.Texts.{usage_text, fault_text, too_large_text, left_behind_text}

-- the outcome with this answer and this text, that leaves the folder as it is
abbrev pub without_effect : Status → List ℕ → Outcome
without_effect status text = record { status = status; text = text; effect = Nothing }

-- what a command comes to that prints these lines
abbrev pub printing : List ℕ → Outcome
printing lines = without_effect Ok lines

-- what words without a meaning come to
abbrev pub usage_outcome : Outcome
usage_outcome = without_effect Usage usage_text

-- the answer of a command that needs no commit, where a file has this fault
abbrev pub not_standing : Spot → Status
not_standing spot = NotStanding 0 (record { segment = 0; spot = spot })

-- what a command that needs no commit comes to, where a file of the segment has this fault
abbrev pub faulty_outcome : List ℕ → Spot → Outcome
faulty_outcome segment spot = without_effect (not_standing spot) (fault_text segment spot)

-- what a command comes to, where the first file that is too long is of this kind
abbrev pub too_large_outcome : FileKind → Outcome
too_large_outcome kind = without_effect (Refused (FileTooLarge kind)) (too_large_text kind)

-- the answer is one that an outcome may have: it says neither that something failed nor that memory ended
abbrev pub IsAnswer : Status → Type 0
IsAnswer (Device which) = ⊥
IsAnswer NoMemory = ⊥
IsAnswer LeftBehind = ⊥
IsAnswer answer = Unit {0}

-- an outcome that a call may come to over these files: it has such an answer, only `Ok` changes the folder, and it loses nothing
pub record IsProper (files : Option Files) (outcome : Outcome) : Type 0 where
  pub answer : IsAnswer outcome.status
  pub idle : outcome.status ≢ Ok → outcome.effect ≡ Nothing
  pub sound : ForSome files (LosesNothing outcome.effect)

-- the answer of an outcome that is done: its own, or, where it has an effect, that names were left behind
abbrev pub IsAnswerOf : Outcome → Status → Type 0
IsAnswerOf outcome answer = (answer ≡ outcome.status) ⊎ ((outcome.effect ≢ Nothing) × (answer ≡ LeftBehind))

-- the text that is printed with it
abbrev pub IsTextOf : Outcome → List ℕ → Type 0
IsTextOf outcome text = (text ≡ outcome.text) ⊎ ((outcome.effect ≢ Nothing) × (text ≡ outcome.text ++ left_behind_text))

-- two outcomes have the same answer and the same effect
pub record AreAlike (one other : Outcome) : Type 0 where
  pub status : one.status ≡ other.status
  pub effect : one.effect ≡ other.effect
