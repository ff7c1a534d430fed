use Rattle.std.proofs.Common.{◌-◌, ◌++◌, ap, sym, ◌∙◌, arith}
use Rattle.std.proofs.lemmas.Result.{on_ok_weaker}
use Rattle.seg_writer.specs.NormColumns.{missing_norms}
use Rattle.seg_writer.proofs.NormLemmas.{added-begun, added-next, added-end, next-fits}
use Rattle.seg_writer.proofs.norms.add_column.Goals as goal

pub loop-here-init : goal.loop-here-init
loop-here-init c name docs (is, size) = added-begun name docs c.args.column.now c.args.writer.now is

pub overflow_sub-here : goal.overflow_sub-here
overflow_sub-here c = (next-fits c.args.column.now c.args.documents c.loop-here.here-index c.here-item.result c.loop-here.next c.args.writer.now c.loop-here.writer c.requires.column c.loop-here-test.true c.here-item.is c.loop-here.invariant).0

pub overflow_add-next : goal.overflow_add-next
overflow_add-next c =
    let fits = (next-fits c.args.column.now c.args.documents c.loop-here.here-index c.here-item.result c.loop-here.next c.args.writer.now c.loop-here.writer c.requires.column c.loop-here-test.true c.here-item.is c.loop-here.invariant).1 in
    let few = c.requires.few in
    omega (arith, fits, few)

pub loop-here-preserved : goal.loop-here-preserved
loop-here-preserved c name docs of =
    added-next name docs c.args.column.now c.loop-here.here-index c.here-item.result c.loop-here.next c.norm_in.result c.args.writer.now c.loop-here.writer c.add_missing.new.writer c.add.new.self c.loop-here-test.true c.here-item.is (c.loop-here.invariant name docs of) c.norm_in.ensures c.in-Ok.ensures c.in-Ok-add.ensures.ok

pub returns : goal.returns
returns c =
    on_ok_weaker c.add_missing-2.result (λ filled name docs of. added-end name docs c.args.column.now c.loop-here.here-index c.loop-here.next c.args.writer.now c.loop-here.writer c.add_missing-2.new.writer c.loop-here-test.false (c.loop-here.invariant name docs of)
    (filled ∙ ap (λ n. c.loop-here.writer ++ missing_norms (n - c.loop-here.next)) (sym of.1))) c.add_missing-2.ensures
