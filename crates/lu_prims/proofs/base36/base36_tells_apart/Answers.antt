use Rattle.lu_prims.proofs.Base36Lemmas.{base36_same}
use Rattle.lu_prims.proofs.base36.base36_tells_apart.Goals as goal

pub returns : goal.returns
returns c = base36_same
