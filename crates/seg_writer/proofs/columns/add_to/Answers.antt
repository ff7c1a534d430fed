use Rattle.std.proofs.Common.{refl}
use Rattle.seg_writer.proofs.ColumnLemmas.{pushed-at}
use Rattle.seg_writer.proofs.columns.add_to.Goals as goal

pub returns : goal.returns
returns c = pushed-at c.args.columns.now.items c.args.number c.index_mut-column.result.now c.push.new.self _ _ c.requires c.index_mut-column.ensures.value c.in_ok-push.ensures.items refl
