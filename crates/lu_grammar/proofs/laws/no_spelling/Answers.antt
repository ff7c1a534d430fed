use Rattle.lu_grammar.proofs.Parts.{wrong-read}
use Rattle.lu_grammar.proofs.LawLemmas.{failed_is_wrong, failed_has_none, none_fails}
use Rattle.lu_grammar.proofs.laws.no_spelling.Goals as goal

pub returns-clause-wrong : goal.returns-clause-wrong
returns-clause-wrong c = λ p bs bad fits. (failed_is_wrong p bs bad fits, wrong-read p bs bad fits)

pub returns-clause-none : goal.returns-clause-none
returns-clause-none c = λ p bs fits. (λ failed. failed_has_none p bs failed.0 failed.1, none_fails p bs fits)
