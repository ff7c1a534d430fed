use Rattle.doc_marks.proofs.DelForms.{del-only}
use Rattle.doc_marks.proofs.DelReads.{dense-reads, sparse-reads, del-reads}
use Rattle.doc_marks.proofs.laws.written_deletions_are_read.Goals as goal

pub returns : goal.returns
returns c = record { dense = dense-reads; sparse = sparse-reads; chosen = del-reads; only = del-only }
