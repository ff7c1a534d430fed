use Rattle.lu_grammar.proofs.Parts.{read-spelling}
use Rattle.lu_grammar.proofs.LawLemmas.{read_is_spelled}
use Rattle.lu_grammar.proofs.laws.spelled_and_read.Goals as goal

pub returns-clause-spelled : goal.returns-clause-spelled
returns-clause-spelled c = read-spelling

pub returns-clause-read_back : goal.returns-clause-read_back
returns-clause-read_back c = read_is_spelled
