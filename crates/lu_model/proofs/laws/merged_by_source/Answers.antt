use Rattle.lu_model.specs.Contents.{index_of, joined_table, stored_in, vectors_in}
use Rattle.lu_model.specs.Valid.{IsValid}
use Rattle.lu_model.proofs.Each.{each-from_all}
use Rattle.lu_model.proofs.BySource.{norms-merge, over_live, size-merge, terms-merge}
use Rattle.lu_model.proofs.laws.merged_by_source.Goals as goal

pub returns-clause-size : goal.returns-clause-size
unfolding index_of
returns-clause-size c = size-merge

pub returns-clause-stored : goal.returns-clause-stored
unfolding index_of
returns-clause-stored c = λ indexes. over_live (λ content. stored_in (joined_table indexes) content.stored) indexes

pub returns-clause-vectors : goal.returns-clause-vectors
unfolding index_of
returns-clause-vectors c = λ indexes. over_live (λ content. vectors_in (joined_table indexes) content.vectors) indexes

pub returns-clause-norms : goal.returns-clause-norms
unfolding index_of
returns-clause-norms c = λ indexes. norms-merge indexes (joined_table indexes)

pub returns-clause-terms : goal.returns-clause-terms
returns-clause-terms c = λ indexes ok. terms-merge indexes (each-from_all IsValid indexes ok)
