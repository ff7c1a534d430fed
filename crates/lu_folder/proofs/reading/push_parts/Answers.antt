use Rattle.std.proofs.Common.{◌∙◌, List, ap}
use Rattle.std.specs.declared.vec.Vec.{Vec}
use Rattle.std.specs.declared.alloc.Global.{Global}
use Rattle.segment_infos.specs.declared.naming.LuceneName.{LuceneName}
use Rattle.lu_folder.proofs.ReadLemmas.{added-part, passed-kind}
use Rattle.lu_folder.proofs.reading.push_parts.Goals as goal
use Rattle.lu_folder.proofs.reading.push_parts.Goals.{in-Some+in_ok-push, in_default}

pub loop-kind-preserved : goal.loop-kind-preserved
loop-kind-preserved c =
    let items : Vec LuceneName Global → List LuceneName = λ names. names.items in
    elim c.match-holder.branch [
      | in-Some+in_ok-push w ↦ added-part c.args.info.now c.args.kinds.now c.loop-kind.kind-index w.in-Some.number _ c.args.names.now.items c.loop-kind.names.items c.match-holder.names.items
          c.loop-kind-test.true w.in-Some.ensures (ap items w.names-is ∙ w.in_ok-push.ensures.items) c.loop-kind.invariant
      | in_default w ↦ passed-kind c.args.info.now c.args.kinds.now c.loop-kind.kind-index _ c.args.names.now.items c.loop-kind.names.items c.match-holder.names.items
          c.loop-kind-test.true w.in_default.ensures (ap items w.names-is) c.loop-kind.invariant
    ]
