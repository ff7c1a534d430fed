use Rattle.lu_folder.proofs.FreshLemmas.{segment-valid, segment-unlisted, segment-unreferred}
use Rattle.lu_folder.proofs.laws.drawn_segment_is_new.Goals as goal

pub returns-clause-valid : goal.returns-clause-valid
returns-clause-valid c = segment-valid

pub returns-clause-unlisted : goal.returns-clause-unlisted
returns-clause-unlisted c = segment-unlisted

pub returns-clause-unreferred : goal.returns-clause-unreferred
returns-clause-unreferred c = segment-unreferred
