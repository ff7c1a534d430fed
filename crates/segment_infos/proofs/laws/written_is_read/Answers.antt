use Rattle.segment_infos.proofs.WrittenCommits.{commit-reads}
use Rattle.segment_infos.proofs.laws.written_is_read.Goals as goal

pub returns : goal.returns
returns c = commit-reads
