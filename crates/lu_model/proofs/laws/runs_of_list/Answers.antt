use Rattle.lu_model.proofs.Runs.{run_bounds, run_full, together}
use Rattle.lu_model.proofs.laws.runs_of_list.Goals as goal

pub returns-clause-together : goal.returns-clause-together
returns-clause-together g c = λ every items some. together every items some

pub returns-clause-some : goal.returns-clause-some
returns-clause-some g c = λ every items some n d h. run_bounds every items some n d h

pub returns-clause-full : goal.returns-clause-full
returns-clause-full g c = λ every n items some h. run_full every items some n h
