-- What stops a command before it prints what it was asked for.
use Rattle.std.specs.Prelude.{◌≡◌}
use Rattle.lu_reads.specs.declared.stopping.Stop.{Stop}
use Rattle.lu_reads.specs.declared.stopping.Stop.TheVariants.{Said, Failed}
use Rattle.lu_outcomes.specs.declared.outcome.Outcome.{Outcome}

-- where an outcome stopped it, this holds of the outcome
abbrev pub StopSays : (Outcome → Type 0) → Stop → Type 0
StopSays Say (Said outcome) = Say outcome
StopSays Say (Failed fail) = Unit {0}

-- this outcome stopped it
abbrev pub IsSaidBy : Stop → Outcome → Type 0
IsSaidBy (Said outcome) due = due ≡ outcome
IsSaidBy (Failed fail) due = ⊥
