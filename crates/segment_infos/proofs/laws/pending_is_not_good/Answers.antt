use Rattle.segment_infos.proofs.WrittenCommits.{pending-not_good, pending-front, length-pending}
use Rattle.segment_infos.proofs.laws.pending_is_not_good.Goals as goal

pub returns-clause-not_good : goal.returns-clause-not_good
returns-clause-not_good c = pending-not_good

pub returns-clause-others : goal.returns-clause-others
returns-clause-others c = pending-front

pub returns-clause-length : goal.returns-clause-length
returns-clause-length c = length-pending
