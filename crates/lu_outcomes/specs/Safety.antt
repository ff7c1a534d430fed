-- What a call keeps of the folder, whatever it answers.
use Rattle.std.specs.Prelude.{◌≡◌, ◌≢◌, ◌⊎◌}
use Rattle.lu_dir.specs.Files.{Files}
use Rattle.lu_outcomes.specs.declared.status.Status.{Status}
use Rattle.lu_outcomes.specs.declared.status.Status.TheVariants.{Ok, Device, NoMemory, LeftBehind}
use Rattle.lu_outcomes.specs.declared.status.Which.TheVariants.{Dir, Sink}
use Rattle.lu_outcomes.specs.declared.outcome.Effect.TheVariants.{Nothing}
use Rattle.lu_outcomes.specs.declared.outcome.Outcome.{Outcome}
use Rattle.lu_outcomes.specs.Effects.{standing, ReadsAs, StopsAs}

-- the folder after each answer, where `Failed` says that the folder failed
abbrev pub IsSafe : (Outcome → Type 0) → Type 0 → Status → Files → Files → Type 0
-- the outcome that is due is done, exactly
IsSafe IsDue Failed Ok old new =
    (outcome : Outcome) × IsDue outcome × (outcome.status ≡ Ok) × (new ≡ standing outcome.effect old) × ReadsAs outcome.effect old new
-- its effect is made, but that names without use may be left
IsSafe IsDue Failed LeftBehind old new =
    (outcome : Outcome) × IsDue outcome × (outcome.effect ≢ Nothing) × ReadsAs outcome.effect old new
-- it is done, exactly so where the folder did not fail
IsSafe IsDue Failed (Device Sink) old new =
    (outcome : Outcome) × IsDue outcome × ReadsAs outcome.effect old new × (¬ Failed → new ≡ standing outcome.effect old)
-- nothing is done, or its effect was stopped on the way
IsSafe IsDue Failed (Device Dir) old new = (new ≡ old) ⊎ ((outcome : Outcome) × IsDue outcome × StopsAs outcome.effect old new)
-- nothing is done, or its effect was stopped on the way, or it is done
IsSafe IsDue Failed NoMemory old new =
    (new ≡ old) ⊎ ((outcome : Outcome) × IsDue outcome × (StopsAs outcome.effect old new ⊎ ReadsAs outcome.effect old new))
-- words without a meaning, a fault, a refusal, and an input that failed leave everything as it was
IsSafe IsDue Failed answer old new = new ≡ old
