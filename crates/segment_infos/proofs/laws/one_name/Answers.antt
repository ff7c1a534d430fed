use Rattle.segment_infos.proofs.NameSpelled.{SpellsName-one, lucene_name_in-SpellsName, SpellsName-lucene_name_in}
use Rattle.segment_infos.proofs.laws.one_name.Goals as goal

pub returns-clause-one : goal.returns-clause-one
returns-clause-one c = SpellsName-one

pub returns-clause-found : goal.returns-clause-found
returns-clause-found c = λ text name. (SpellsName-lucene_name_in text name, lucene_name_in-SpellsName text name)
