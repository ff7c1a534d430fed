use Rattle.check_index.proofs.StandsLaws.{stands-from, stands-by_files}
use Rattle.check_index.proofs.laws.segments_stand_by_files.Goals as goal

pub returns : goal.returns
returns c = λ folder line x. (stands-by_files folder line x, stands-from folder line x)
