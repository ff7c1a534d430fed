use Rattle.term_index.proofs.SearchLemmas.{IsHalving}
use Rattle.term_index.proofs.search.count_below.Given as goal

abbrev pub invariant-loop-left : goal.invariant-loop-left
invariant-loop-left g l = IsHalving l.sought l.marks l.fn.steps l.below l.left l.steps

abbrev pub decreases-loop-left : goal.decreases-loop-left
decreases-loop-left g l = l.left
