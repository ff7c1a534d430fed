use Rattle.std.proofs.Common.{◌≡◌, ◌^◌, ◌<◌, ◌≤◌, true}
use Rattle.lu_grammar.specs.Reading.{read_groups}
use Rattle.lu_prims.proofs.GroupLemmas.{behind, groups_from}
use Rattle.lu_prims.proofs.front.groups_at.Given as goal

-- what was read, and what is left, make the number
abbrev pub invariant-loop-index : goal.invariant-loop-index
invariant-loop-index l = record {
  so_far : behind l.value l.weight l.index (groups_from l.more l.index l.bytes) ≡ read_groups l.more true l.bytes;
  weight : l.weight ≡ 128 ^ l.index;
  below : l.value < l.weight;
  within : l.index ≤ l.more;
}
