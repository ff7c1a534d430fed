use Rattle.term_vectors.proofs.ValidDocuments.{values_valid}
use Rattle.term_vectors.proofs.laws.documents_are_good.Goals as goal

pub returns : goal.returns
returns c total window fields tvx tvd tvf value tvd_bytes tvf_bytes within short stand = values_valid total window fields tvx tvd tvf value tvd_bytes tvf_bytes within short stand
