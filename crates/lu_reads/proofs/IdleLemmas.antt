-- Outcomes that leave the folder as it is.
use Rattle.std.proofs.Common.{◌≡◌, List, ℕ, Option, refl, sym, subst, inl, inr}
use Rattle.lu_dir.specs.Files.{Files}
use Rattle.lu_types.specs.FilePlans.{FilePlan}
use Rattle.lu_outcomes.specs.declared.status.Status.{Status}
use Rattle.lu_outcomes.specs.declared.outcome.Effect.{Effect}
use Rattle.lu_outcomes.specs.declared.outcome.Effect.TheVariants.{Nothing}
use Rattle.lu_outcomes.specs.declared.outcome.Outcome.{Outcome}
use Rattle.lu_outcomes.specs.Outcomes.{without_effect, not_standing, IsAnswer, IsProper}
use Rattle.lu_outcomes.specs.Effects.{LosesNothing}
use Rattle.lu_reads.specs.FilesDue.{FilesSay}

-- an outcome that has an answer of one, and that changes nothing
pub record IsIdle (outcome : Outcome) : Type 0 where
  pub answer : IsAnswer outcome.status
  pub effect : outcome.effect ≡ Nothing

-- it is proper, whatever the files are
pub idle-proper : (files : Option Files) (outcome : Outcome) → IsIdle outcome → IsProper files outcome
idle-proper files outcome idle = record {
  answer = idle.answer;
  idle = λ other. idle.effect;
  sound = λ told is. subst (λ (effect : Effect). LosesNothing effect told) (sym idle.effect) tt;
}

-- an outcome without an effect
pub idle-without_effect : (status : Status) (text : List ℕ) → IsAnswer status → IsIdle (without_effect status text)
idle-without_effect status text answer = record { answer = answer; effect = refl }

-- what a command that reads files of a segment comes to
pub FilesSay-idle : {X : Type 0} (segment : List ℕ) (files : FilePlan X) (lines : X → List ℕ) (outcome : Outcome) → FilesSay segment files lines outcome → IsIdle outcome
FilesSay-idle segment files lines outcome (inl a) = subst IsIdle (sym a.2) (idle-without_effect _ (lines a.0) tt)
FilesSay-idle segment files lines outcome (inr a) = subst IsIdle (sym a.2) (idle-without_effect (not_standing a.0) _ tt)
