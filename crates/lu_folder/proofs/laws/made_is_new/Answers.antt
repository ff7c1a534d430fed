use Rattle.lu_folder.proofs.KeepsLemmas.{made-keeps}
use Rattle.lu_folder.proofs.laws.made_is_new.Goals as goal

pub returns : goal.returns
returns c = λ change old new valid good fresh made. made-keeps change old valid good fresh new made
