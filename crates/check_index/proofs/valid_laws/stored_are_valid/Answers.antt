use Rattle.std.proofs.Common.{length}
use Rattle.check_index.proofs.StandsLaws.{stands-by_files}
use Rattle.check_index.proofs.ValidStored.{stored-are}
use Rattle.check_index.proofs.valid_laws.stored_are_valid.Goals as goal

pub returns : goal.returns
returns c = record {
  number = λ folder line x h. let by = stands-by_files folder line x h in (stored-are line.store line.size (length x.index.fields) by.documents.fdx by.documents.fdt x.index.stored by.stored).number;
  few = λ folder line x h. let by = stands-by_files folder line x h in (stored-are line.store line.size (length x.index.fields) by.documents.fdx by.documents.fdt x.index.stored by.stored).few;
  values = λ folder line x h. let by = stands-by_files folder line x h in (stored-are line.store line.size (length x.index.fields) by.documents.fdx by.documents.fdt x.index.stored by.stored).values;
}
