use Rattle.lu_folder.proofs.AboveLemmas.{above-least, above-each, above-most}
use Rattle.lu_folder.proofs.laws.above_is_least.Goals as goal

pub returns-clause-least : goal.returns-clause-least
returns-clause-least c = above-least

pub returns-clause-each : goal.returns-clause-each
returns-clause-each c = above-each

pub returns-clause-most : goal.returns-clause-most
returns-clause-most c = above-most
