use Rattle.std.proofs.Common.{◌≤◌, length}
use Rattle.seg_merger.specs.TermHeads.{IsBuilt}
use Rattle.seg_merger.specs.TermRests.{rest_heads}
use Rattle.seg_merger.proofs.terms.tournament.build.Given as goal

abbrev pub invariant-loop-node : goal.invariant-loop-node
invariant-loop-node l = record {
  built : IsBuilt (rest_heads l.slots) l.tree l.node;
  some : 1 ≤ l.node;
  inner : l.node ≤ length l.slots;
}

abbrev pub decreases-loop-node : goal.decreases-loop-node
decreases-loop-node l = l.node
