use Rattle.doc_marks.proofs.NormLaws.{nrm-reads, nrm-only}
use Rattle.doc_marks.proofs.laws.written_norms_are_read.Goals as goal

pub returns : goal.returns
returns c = record { reads = nrm-reads; only = nrm-only }
