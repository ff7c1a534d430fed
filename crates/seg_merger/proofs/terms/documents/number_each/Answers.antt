use Rattle.std.proofs.Common.{below_more, arith}
use Rattle.std.proofs.lemmas.Grind.{common_steps}
use Rattle.seg_merger.proofs.DocumentLemmas.{counted-le, number-live, number-dead}
use Rattle.seg_merger.proofs.terms.documents.number_each.Goals as goal
use Rattle.seg_merger.proofs.terms.documents.number_each.Goals.{then-is_live, else-is_live}

pub overflow_add-next : goal.overflow_add-next
overflow_add-next c =
    let most = counted-le c.args.reader.now.index.deleted c.loop-doc.doc in
    let next = c.loop-doc.invariant.next in
    let small = c.size-size.ensures.valid.small in
    let size = c.size-size.ensures.size in
    let room = c.requires in
    let low = c.loop-doc-test.true in
    omega (arith, most, next, small, size, room, low)

pub loop-doc-preserved : goal.loop-doc-preserved
loop-doc-preserved c = record {
  all = grind (arith, common_steps);
  next = elim c.if-is_live.branch [
    | then-is_live w ↦ number-live c.args.reader.now.index.deleted c.args.base c.loop-doc.doc c.loop-doc.next _ c.is_live.result c.loop-doc.invariant.next c.is_live.ensures w.if-is_live.true w.next-is
    | else-is_live w ↦ number-dead c.args.reader.now.index.deleted c.args.base c.loop-doc.doc c.loop-doc.next _ c.is_live.result c.loop-doc.invariant.next c.is_live.ensures w.if-is_live.false w.next-is
  ];
  each = below_more _ _ (λ k h. let here = c.loop-doc.invariant.each k h in grind (arith, common_steps)) (grind (arith, common_steps));
}
