use Rattle.std.proofs.Common.{◌<◌, length, arith, ◌∙◌}
use Rattle.lu_dir.proofs.Loads.{texts-push, texts-all}
use Rattle.lu_dir.proofs.loading.copied.Goals as goal

pub loop-name-preserved : goal.loop-name-preserved
loop-name-preserved c =
    let within : c.loop-name.name-index < length c.args.names.now = omega arith in
    texts-push c.loop-name.copies.items c.push.new.self.items c.args.names.now c.in_ok-clone.field-0 c.name-item.result c.loop-name.name-index
    c.in_ok-push.ensures.items c.in_ok-clone.ensures.cases within c.name-item.is c.loop-name.invariant

pub returns : goal.returns
returns c = c.loop-name.invariant ∙ texts-all c.args.names.now c.loop-name.name-index c.loop-name-test.false
