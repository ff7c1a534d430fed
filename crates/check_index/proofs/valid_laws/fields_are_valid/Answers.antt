use Rattle.check_index.specs.Documents.{norm_fields}
use Rattle.check_index.proofs.StandsLaws.{stands-by_files}
use Rattle.check_index.proofs.ValidFields.{fields-are}
use Rattle.check_index.proofs.valid_laws.fields_are_valid.Goals as goal

pub returns : goal.returns
returns c = record {
  table = λ folder line x h. let by = stands-by_files folder line x h in (fields-are line.has_prox (norm_fields line) by.own.index.fnm x.index.fields by.fnm).table;
  names = λ folder line x h. let by = stands-by_files folder line x h in (fields-are line.has_prox (norm_fields line) by.own.index.fnm x.index.fields by.fnm).names;
}
