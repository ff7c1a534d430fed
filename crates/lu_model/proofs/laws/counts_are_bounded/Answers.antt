use Rattle.lu_model.specs.Valid.{IsValid}
use Rattle.lu_model.proofs.Counts.{joined-le, merged_terms-le, table_of-le, terms-le, vectors-le}
use Rattle.lu_model.proofs.Each.{each-from_all}
use Rattle.lu_model.proofs.laws.counts_are_bounded.Goals as goal

pub returns-clause-terms : goal.returns-clause-terms
returns-clause-terms c = terms-le

pub returns-clause-fields : goal.returns-clause-fields
returns-clause-fields c = table_of-le

pub returns-clause-vectors : goal.returns-clause-vectors
returns-clause-vectors c = vectors-le

pub returns-clause-merged_terms : goal.returns-clause-merged_terms
returns-clause-merged_terms c = λ indexes ok. merged_terms-le indexes (each-from_all IsValid indexes ok)

pub returns-clause-merged_fields : goal.returns-clause-merged_fields
returns-clause-merged_fields c = joined-le
