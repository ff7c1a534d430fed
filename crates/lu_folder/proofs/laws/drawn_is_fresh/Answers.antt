use Rattle.lu_folder.proofs.FreshLemmas.{drawn-fresh}
use Rattle.lu_folder.proofs.laws.drawn_is_fresh.Goals as goal

pub returns : goal.returns
returns c = drawn-fresh
