use Rattle.term_vectors.proofs.HeldLemmas.{none-held, document-begun, document-done}
use Rattle.term_vectors.proofs.laws.documents_are_held.Goals as goal

pub returns-clause-none : goal.returns-clause-none
returns-clause-none c = none-held

pub returns-clause-begun : goal.returns-clause-begun
returns-clause-begun c = document-begun

pub returns-clause-done : goal.returns-clause-done
returns-clause-done c = document-done
