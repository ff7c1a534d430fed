use Rattle.segment_files.proofs.Limits.{canonical-within}
use Rattle.segment_files.proofs.laws.canonical_files_are_within.Goals as goal

pub returns : goal.returns
returns c = canonical-within
