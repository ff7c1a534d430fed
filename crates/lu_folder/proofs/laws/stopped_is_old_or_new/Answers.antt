use Rattle.lu_folder.proofs.KeepsLemmas.{stopped-keeps}
use Rattle.lu_folder.proofs.laws.stopped_is_old_or_new.Goals as goal

pub returns : goal.returns
returns c = λ change old new valid good fresh stopped. stopped-keeps change old valid good fresh new stopped
