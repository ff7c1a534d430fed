use Rattle.lu_grammar.proofs.LawLemmas.{spelling_is_one}
use Rattle.lu_grammar.proofs.laws.one_spelling.Goals as goal

pub returns : goal.returns
returns c = spelling_is_one
