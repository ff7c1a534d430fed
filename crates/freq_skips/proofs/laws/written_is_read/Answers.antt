use Rattle.freq_skips.proofs.FinishedTerms.{ReadsTo-finished}
use Rattle.freq_skips.proofs.laws.written_is_read.Goals as goal

pub returns : goal.returns
returns c = ReadsTo-finished
