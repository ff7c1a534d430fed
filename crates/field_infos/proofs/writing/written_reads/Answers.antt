use Rattle.field_infos.proofs.Spellings.{fnm-reads}
use Rattle.field_infos.proofs.OneSpelling.{fnm-only}
use Rattle.field_infos.proofs.writing.written_reads.Goals as goal

pub returns-clause-reads : goal.returns-clause-reads
returns-clause-reads c = λ has_prox norm_fields fields table named proxed same. fnm-reads has_prox fields table named proxed norm_fields same

pub returns-clause-only : goal.returns-clause-only
returns-clause-only c = fnm-only
