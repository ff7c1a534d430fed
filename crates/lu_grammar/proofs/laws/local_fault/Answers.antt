use Rattle.lu_grammar.proofs.LawLemmas.{fault_is_local}
use Rattle.lu_grammar.proofs.laws.local_fault.Goals as goal

pub returns : goal.returns
returns g c = fault_is_local
