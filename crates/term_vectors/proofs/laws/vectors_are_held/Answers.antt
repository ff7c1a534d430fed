use Rattle.term_vectors.proofs.HeldLemmas.{vector-begun, vector-done}
use Rattle.term_vectors.proofs.laws.vectors_are_held.Goals as goal

pub returns-clause-begun : goal.returns-clause-begun
returns-clause-begun c = vector-begun

pub returns-clause-done : goal.returns-clause-done
returns-clause-done c = vector-done
