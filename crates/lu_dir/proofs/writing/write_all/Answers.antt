use Rattle.std.proofs.Common.{take, arith, length-drop, ap, ◌∙◌}
use Rattle.std.proofs.lemmas.List.{take_rest}
use Rattle.lu_dir.specs.Streams.{with_taken}
use Rattle.lu_dir.proofs.Taken.{with_taken-take}
use Rattle.lu_dir.proofs.writing.write_all.Goals as goal

pub loop-at-preserved : goal.loop-at-preserved
loop-at-preserved g c = record {
  within = omega (arith, c.in-Ok.ensures.within, length-drop c.loop-at.at c.args.bytes.now);
  taken = with_taken-take c.loop-at.at c.in-Ok.count c.args.bytes.now _ _ _ c.loop-at.invariant.taken
      (c.in-Ok.ensures.taken ∙ ap (λ rest. with_taken (take c.in-Ok.count rest) (g.K.Sink.taken c.loop-at.out)) (take_rest c.args.bytes.now c.loop-at.at));
  later = omega (arith, c.loop-at.invariant.later, c.in-Ok.ensures.cause.later);
}
