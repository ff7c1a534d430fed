use Rattle.positions.proofs.WritingLemmas.{written-read}
use Rattle.positions.proofs.laws.written_is_read.Goals as goal

pub returns : goal.returns
returns c = written-read
