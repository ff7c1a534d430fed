use Rattle.lu_folder.proofs.FreshLemmas.{generation-valid, generation-unlisted}
use Rattle.lu_folder.proofs.laws.drawn_generation_is_new.Goals as goal

pub returns-clause-valid : goal.returns-clause-valid
returns-clause-valid c = generation-valid

pub returns-clause-unlisted : goal.returns-clause-unlisted
returns-clause-unlisted c = generation-unlisted
