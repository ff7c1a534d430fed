use Rattle.term_dict.proofs.IndexBack.{tii-reads}
use Rattle.term_dict.proofs.laws.written_index_is_read.Goals as goal

pub returns : goal.returns
returns c = tii-reads
