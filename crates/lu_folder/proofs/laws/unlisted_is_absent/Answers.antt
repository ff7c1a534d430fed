use Rattle.lu_folder.proofs.ListedLemmas.{unnamed-none}
use Rattle.lu_folder.proofs.laws.unlisted_is_absent.Goals as goal

pub returns : goal.returns
returns c = λ files names name all free. unnamed-none files names all name free
