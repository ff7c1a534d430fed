use Rattle.lu_changes.proofs.MergeStanding.{merge-joins}
use Rattle.lu_changes.proofs.merge_laws.merge_joins_the_indexes.Goals as goal

pub returns-clause-some : goal.returns-clause-some
returns-clause-some c compound old new outcome change indexes due effect adds is_new stands = (merge-joins compound old new outcome change indexes due effect adds is_new stands).0

pub returns-clause-none : goal.returns-clause-none
returns-clause-none c compound old new outcome change indexes due effect adds is_new stands = (merge-joins compound old new outcome change indexes due effect adds is_new stands).1
