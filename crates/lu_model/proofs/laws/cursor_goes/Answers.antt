use Rattle.lu_model.proofs.Cursors.{goes-first, none_left}
use Rattle.lu_model.proofs.laws.cursor_goes.Goals as goal

pub returns-clause-some : goal.returns-clause-some
returns-clause-some c = λ entries deleted next target e rise q. goes-first deleted next target e entries rise q

pub returns-clause-none : goal.returns-clause-none
returns-clause-none c = λ entries deleted next target q. none_left _ entries q
