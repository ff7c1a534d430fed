use Rattle.term_vectors.proofs.WrittenFiles.{written_stand}
use Rattle.term_vectors.proofs.laws.written_is_read.Goals as goal

pub returns : goal.returns
returns c = written_stand
