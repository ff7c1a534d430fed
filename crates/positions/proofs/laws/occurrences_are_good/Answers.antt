use Rattle.positions.proofs.GoodLemmas.{entry-good}
use Rattle.positions.proofs.laws.occurrences_are_good.Goals as goal

pub returns : goal.returns
returns c = entry-good
