use Rattle.std.proofs.Common.{length, arith}
use Rattle.seg_merger.specs.TermRests.{rest_heads}
use Rattle.seg_merger.proofs.TreeLemmas.{leaves-built, length-heads}
use Rattle.seg_merger.proofs.terms.tournament.tournament.Goals as goal

pub build-requires : goal.build-requires
build-requires c = record {
  leaves = leaves-built (rest_heads c.args.slots.now) c.as_mut_slice.result.now c.loop-number.tree.items (length c.args.slots.now) c.as_mut_slice.ensures.value (length-heads c.args.slots.now) (let all = c.loop-number.invariant.all in omega arith) (λ j low high. c.loop-number.invariant.leaf j low (omega arith));
  some = c.requires.0;
  few = c.requires.1;
}
