use Rattle.compound_file.proofs.OnlyPacked.{cfs-only}
use Rattle.compound_file.proofs.laws.only_packed_is_split.Goals as goal

pub returns : goal.returns
returns c = cfs-only
