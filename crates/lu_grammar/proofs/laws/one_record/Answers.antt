use Rattle.lu_grammar.proofs.Plans.{one_record}
use Rattle.lu_grammar.proofs.laws.one_record.Goals as goal

pub returns : goal.returns
returns g c = λ shape conditions s t x y. one_record shape conditions 0 s t x y
