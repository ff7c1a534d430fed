use Rattle.compound_file.proofs.WrittenLemmas.{cfs-reads}
use Rattle.compound_file.proofs.laws.packed_is_split.Goals as goal

pub returns : goal.returns
returns c = cfs-reads
