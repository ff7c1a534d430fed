use Rattle.lu_grammar.proofs.Plans.{read_plan-good}
use Rattle.lu_grammar.proofs.laws.reading_again.Goals as goal

pub returns : goal.returns
returns g c = read_plan-good
