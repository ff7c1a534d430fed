use Rattle.lu_grammar.proofs.LawLemmas.{value_is_one, no_fault_if_read}
use Rattle.lu_grammar.proofs.laws.one_reading.Goals as goal

pub returns-clause-value : goal.returns-clause-value
returns-clause-value g c = value_is_one

pub returns-clause-no_fault : goal.returns-clause-no_fault
returns-clause-no_fault g c = no_fault_if_read
