use Rattle.std.proofs.Common.{Some, refl}
use Rattle.lu_command.proofs.DueLemmas.{Due-alike}
use Rattle.lu_command.proofs.laws.one_answer.Goals as goal

pub returns-clause-status : goal.returns-clause-status
returns-clause-status c words files input one other first second = (Due-alike files (Some input) words (λ asks. refl) one other first second).status

pub returns-clause-effect : goal.returns-clause-effect
returns-clause-effect c words files input one other first second = (Due-alike files (Some input) words (λ asks. refl) one other first second).effect
