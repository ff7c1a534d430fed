use Rattle.check_index.proofs.ValidIndexed.{indexed-rise, indexed-few, indexed-each}
use Rattle.check_index.proofs.valid_laws.terms_are_valid.Goals as goal

pub returns : goal.returns
returns c = record { rise = indexed-rise; few = indexed-few; each = λ folder line x short h. indexed-each folder line x h short }
