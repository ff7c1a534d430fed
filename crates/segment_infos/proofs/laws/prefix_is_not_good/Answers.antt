use Rattle.segment_infos.proofs.WrittenCommits.{prefix-not_good}
use Rattle.segment_infos.proofs.laws.prefix_is_not_good.Goals as goal

pub returns : goal.returns
returns c = prefix-not_good
