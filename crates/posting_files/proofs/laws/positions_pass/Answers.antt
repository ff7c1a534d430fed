use Rattle.posting_files.proofs.PostingLemmas.{terms-pass, entries-pass}
use Rattle.posting_files.proofs.laws.positions_pass.Goals as goal

pub returns : goal.returns
returns c = record { terms = terms-pass; entries = entries-pass }
