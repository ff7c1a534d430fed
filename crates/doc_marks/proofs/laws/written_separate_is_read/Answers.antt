use Rattle.doc_marks.proofs.NormLaws.{separate-reads, separate-only}
use Rattle.doc_marks.proofs.laws.written_separate_is_read.Goals as goal

pub returns : goal.returns
returns c = record { reads = separate-reads; only = separate-only }
