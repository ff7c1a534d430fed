use Rattle.lu_folder.proofs.StandingLemmas.{referred-kept, referred-made, removable-listed}
use Rattle.lu_folder.proofs.laws.what_stands_is_kept.Goals as goal

pub returns-clause-stopped : goal.returns-clause-stopped
returns-clause-stopped c = referred-kept

pub returns-clause-made : goal.returns-clause-made
returns-clause-made c = referred-made

pub returns-clause-removable : goal.returns-clause-removable
returns-clause-removable c = removable-listed
