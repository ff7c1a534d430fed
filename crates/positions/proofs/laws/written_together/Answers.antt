use Rattle.positions.proofs.BesideLemmas.{beside-stands}
use Rattle.positions.proofs.laws.written_together.Goals as goal

pub returns : goal.returns
returns c = beside-stands
