use Rattle.term_dict.proofs.FactLemmas.{good-terms}
use Rattle.term_dict.proofs.laws.terms_are_good.Goals as goal

pub returns : goal.returns
returns c = good-terms
