use Rattle.lu_grammar.proofs.LawLemmas.{fault_is_one}
use Rattle.lu_grammar.proofs.laws.one_fault.Goals as goal

pub returns : goal.returns
returns g c = fault_is_one
