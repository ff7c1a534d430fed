use Rattle.lu_command.proofs.DueLemmas.{Due-idle, Due-proper}
use Rattle.lu_command.proofs.laws.outcomes_are_proper.Goals as goal

pub returns-clause-proper : goal.returns-clause-proper
returns-clause-proper c words files input outcome due = Due-proper files input outcome words due

pub returns-clause-unchanged : goal.returns-clause-unchanged
returns-clause-unchanged c words files input outcome none due = (Due-idle files input outcome words none due).effect
