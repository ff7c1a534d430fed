use Rattle.std.proofs.Common.{◌≡◌, subst, arith}
use Rattle.seg_merger.specs.TermHeads.{IsNearly}
use Rattle.seg_merger.specs.TermRests.{rest_heads}
use Rattle.seg_merger.proofs.TreeLemmas.{nearly-all, nearly-more, length-heads}
use Rattle.seg_merger.proofs.terms.tournament.replay.Goals as goal

pub loop-node-preserved : goal.loop-node-preserved
loop-node-preserved c =
    let heads = rest_heads c.args.slots.now in
    let size = length-heads c.args.slots.now in
    record {
      nearly = nearly-more heads c.loop-node.tree c.loop-node.node c.first_of.result c.loop-node.invariant.nearly (omega arith) (omega (arith, size)) c.first_of.ensures.either c.first_of.ensures.left c.first_of.ensures.right;
      inner = omega arith;
    }

pub returns : goal.returns
returns c =
    let heads = rest_heads c.args.slots.now in
    let none : c.loop-node.node ≡ 0 = omega arith in
    nearly-all heads c.loop-node.tree (subst (IsNearly heads c.loop-node.tree) none c.loop-node.invariant.nearly)
