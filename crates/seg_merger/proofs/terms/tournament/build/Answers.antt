use Rattle.std.proofs.Common.{◌≡◌, ◌+◌, ◌-◌, subst, arith}
use Rattle.seg_merger.specs.TermHeads.{IsBuilt}
use Rattle.seg_merger.specs.TermRests.{rest_heads}
use Rattle.seg_merger.proofs.TreeLemmas.{built-more, length-heads}
use Rattle.seg_merger.proofs.terms.tournament.build.Goals as goal

pub loop-node-preserved : goal.loop-node-preserved
loop-node-preserved c =
    let heads = rest_heads c.args.slots.now in
    let size = length-heads c.args.slots.now in
    let next : c.loop-node.node ≡ (c.loop-node.node - 1) + 1 = omega arith in
    record {
      built = built-more heads c.loop-node.tree (c.loop-node.node - 1) c.first_of.result (subst (IsBuilt heads c.loop-node.tree) next c.loop-node.invariant.built) (omega arith) (omega (arith, size)) c.first_of.ensures.either c.first_of.ensures.left c.first_of.ensures.right;
      some = omega arith;
      inner = omega arith;
    }
