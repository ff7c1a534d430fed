use Rattle.term_index.proofs.PassLemmas.{HasPassed}
use Rattle.term_index.proofs.walk.pass_terms.Given as goal

abbrev pub invariant-loop : goal.invariant-loop
invariant-loop l = HasPassed l.fn.cursor l.counter l.cursor l.passed.info l.passed.shared
