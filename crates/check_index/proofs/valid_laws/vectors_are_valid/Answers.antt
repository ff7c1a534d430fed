use Rattle.check_index.proofs.ValidSegment.{vectors-valid}
use Rattle.check_index.proofs.valid_laws.vectors_are_valid.Goals as goal

pub returns : goal.returns
returns c = record {
  number = λ folder line x short h. (vectors-valid folder line x short h).0;
  each = λ folder line x short h. (vectors-valid folder line x short h).1;
}
