use Rattle.lu_command.proofs.MeaningLemmas.{only_meaning}
use Rattle.lu_command.proofs.laws.one_meaning.Goals as goal

pub returns : goal.returns
returns c = only_meaning
