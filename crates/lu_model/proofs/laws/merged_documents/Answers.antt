use Rattle.lu_model.proofs.Words.{IsSource}
use Rattle.lu_model.proofs.Each.{each_at, each-from_all}
use Rattle.lu_model.proofs.Merges.{merge_of-sources, joined_covers}
use Rattle.lu_model.proofs.laws.merged_documents.Goals as goal

pub returns-clause-merged : goal.returns-clause-merged
returns-clause-merged c = λ sources ok. merge_of-sources sources (λ s h. each_at IsSource s sources (each-from_all IsSource sources ok) h)

pub returns-clause-covers : goal.returns-clause-covers
returns-clause-covers c = λ sources ok. joined_covers sources (λ s h. each_at IsSource s sources (each-from_all IsSource sources ok) h)
