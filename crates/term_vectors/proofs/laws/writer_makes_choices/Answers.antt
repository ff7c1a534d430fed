use Rattle.term_vectors.proofs.WriterChooses.{made_by_writer}
use Rattle.term_vectors.proofs.laws.writer_makes_choices.Goals as goal

pub returns : goal.returns
returns c = made_by_writer
