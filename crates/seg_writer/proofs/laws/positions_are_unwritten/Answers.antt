use Rattle.seg_writer.proofs.UnwrittenLemmas.{positions-unwritten}
use Rattle.seg_writer.proofs.laws.positions_are_unwritten.Goals as goal

pub returns : goal.returns
returns c = positions-unwritten
