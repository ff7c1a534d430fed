use Rattle.posting_files.proofs.PostingLemmas.{begin-may, end-may, finish-may}
use Rattle.posting_files.proofs.laws.postings_may_follow.Goals as goal

pub returns : goal.returns
returns c = record { begin = begin-may; end = end-may; finish = finish-may }
