-- Commands that stopped before they printed what they were asked for.
use Rattle.std.proofs.Common.{◌≡◌, ℕ, ◌≤◌, List, Option, Result, sym, subst}
use Rattle.std.specs.Prelude.{IfErr}
use Rattle.std.proofs.lemmas.Result.{IfErr-weaker}
use Rattle.lu_dir.specs.Files.{Files}
use Rattle.lu_dir.specs.Faults.{Rose}
use Rattle.lu_reads.specs.declared.stopping.Stop.{Stop}
use Rattle.lu_reads.specs.declared.stopping.Stop.TheVariants.{Said, Failed}
use Rattle.lu_outcomes.specs.declared.status.Status.{Status}
use Rattle.lu_outcomes.specs.declared.outcome.Outcome.{Outcome}
use Rattle.lu_outcomes.specs.Answers.{Answers}
use Rattle.lu_reads.specs.Stopping.{StopSays, IsSaidBy}
use Rattle.lu_outcomes.proofs.AnswerLemmas.{Answers-behind}

module _ (P Q : Outcome → Type 0) (wider : (outcome : Outcome) → P outcome → Q outcome) where
  -- what holds of the outcome that stopped it holds by a wider account
  pub stop-wider : (stop : Stop) → StopSays P stop → StopSays Q stop
  stop-wider (Said outcome) says = wider outcome says
  stop-wider (Failed fail) says = tt

  -- so it does of an answer
  pub stops-wider : {T : Type 0} (answer : Result T Stop) → IfErr answer (StopSays P) → IfErr answer (StopSays Q)
  stops-wider answer = IfErr-weaker answer (StopSays P) (StopSays Q) stop-wider

-- the outcome that stopped it is due
said-due : (IsDue : Outcome → Type 0) (stop : Stop) → StopSays IsDue stop → (outcome : Outcome) → IsSaidBy stop outcome → IsDue outcome
said-due IsDue (Said due) says outcome is = subst IsDue (sym is) says
said-due IsDue (Failed fail) says outcome is = absurd is

-- a call that stopped answers by what is due, behind calls that left the folder as it was
pub Answers-stopped : (IsDue : Outcome → Type 0) (stop : Stop) (old between new : Option Files) (first later last : ℕ) (before after : Option (List ℕ)) (answer : Status) → StopSays IsDue stop → between ≡ old → first ≤ later
    → Answers (IsSaidBy stop) (Rose later last) (record { files = between; taken = before }) (record { files = new; taken = after }) answer
    → Answers IsDue (Rose first last) (record { files = old; taken = before }) (record { files = new; taken = after }) answer
Answers-stopped IsDue stop old between new first later last before after answer says same le answers =
    Answers-behind (λ _. IsSaidBy stop) IsDue old between new first later last before after answer (said-due IsDue stop says) same le answers
