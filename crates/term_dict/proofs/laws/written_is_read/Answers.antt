use Rattle.term_dict.proofs.ReadBack.{tis-reads}
use Rattle.term_dict.proofs.laws.written_is_read.Goals as goal

pub returns : goal.returns
returns c = tis-reads
