use Rattle.std.proofs.Common.{◌≡◌, ◌+◌, ◌<◌, ◌≤◌, ℕ, length, get_or}
use Rattle.seg_merger.proofs.terms.tournament.tournament.Given as goal

abbrev pub invariant-loop : goal.invariant-loop
invariant-loop l = length l.tree.items ≡ l.counter

abbrev pub invariant-loop-number : goal.invariant-loop-number
invariant-loop-number l = record {
  all : length l.tree.items ≡ l.count + l.number;
  leaf : (j : ℕ) → l.count ≤ j → j < l.count + l.number → l.count + get_or l.tree.items j 0 ≡ j;
}
