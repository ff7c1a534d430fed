use Rattle.check_index.proofs.ValidSegment.{index-valid}
use Rattle.check_index.proofs.valid_laws.index_is_valid.Goals as goal

pub returns : goal.returns
returns c = λ folder line x is_line short h. index-valid folder line x short h is_line
