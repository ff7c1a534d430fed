use Rattle.term_dict.specs.Dictionary.{within}
use Rattle.term_dict.specs.Last.{term_of_last}
use Rattle.term_dict.proofs.LoopLemmas.{HasRead}
use Rattle.term_dict.proofs.checking.check_terms.Given as goal

abbrev pub invariant-loop-number : goal.invariant-loop-number
invariant-loop-number l = HasRead (within l.fields l.documents) l.numbers.skip_interval l.fn.cur l.number l.cur (term_of_last l.last) l.longest
