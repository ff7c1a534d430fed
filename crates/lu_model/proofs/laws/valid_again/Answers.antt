use Rattle.lu_model.specs.Contents.{index_of}
use Rattle.lu_model.specs.Valid.{IsValid}
use Rattle.lu_model.proofs.Each.{each-from_all}
use Rattle.lu_model.proofs.ValidMerges.{merge_is_valid}
use Rattle.lu_model.proofs.Deletions.{deleted_is_valid}
use Rattle.lu_model.proofs.laws.valid_again.Goals as goal

pub returns-clause-merged : goal.returns-clause-merged
unfolding index_of
returns-clause-merged c = λ indexes ok few fields terms. merge_is_valid indexes (record { valid = each-from_all IsValid indexes ok; few = few; few_fields = fields; few_terms = terms })

pub returns-clause-deleted : goal.returns-clause-deleted
returns-clause-deleted c = deleted_is_valid
