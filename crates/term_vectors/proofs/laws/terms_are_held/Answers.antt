use Rattle.term_vectors.proofs.HeldLemmas.{term-begun, position-held, span-held, term-done}
use Rattle.term_vectors.proofs.laws.terms_are_held.Goals as goal

pub returns-clause-begun : goal.returns-clause-begun
returns-clause-begun c = term-begun

pub returns-clause-position : goal.returns-clause-position
returns-clause-position c = position-held

pub returns-clause-span : goal.returns-clause-span
returns-clause-span c = span-held

pub returns-clause-done : goal.returns-clause-done
returns-clause-done c = term-done
