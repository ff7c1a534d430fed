use Rattle.term_vectors.proofs.OnlyFiles.{only_written, only_written-whole}
use Rattle.term_vectors.proofs.laws.only_written_is_read.Goals as goal

pub returns-clause-window : goal.returns-clause-window
returns-clause-window c = only_written

pub returns-clause-whole : goal.returns-clause-whole
returns-clause-whole c = only_written-whole
