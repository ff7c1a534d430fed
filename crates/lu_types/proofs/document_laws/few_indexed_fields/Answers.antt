use Rattle.lu_types.proofs.FewFields.{few_fields}
use Rattle.lu_types.proofs.document_laws.few_indexed_fields.Goals as goal

pub returns : goal.returns
returns c = few_fields
