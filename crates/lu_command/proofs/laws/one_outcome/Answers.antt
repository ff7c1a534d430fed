use Rattle.std.proofs.Common.{Some, refl}
use Rattle.lu_command.proofs.DueLemmas.{Due-one}
use Rattle.lu_command.proofs.laws.one_outcome.Goals as goal

pub returns : goal.returns
returns c words files input one other none = Due-one files (Some input) words none (λ asks. refl) one other
