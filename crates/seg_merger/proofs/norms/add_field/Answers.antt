use Rattle.std.proofs.Common.{◌∙◌}
use Rattle.seg_merger.proofs.NormLemmas.{norms-next}
use Rattle.seg_merger.proofs.norms.add_field.Goals as goal

pub loop-reader-preserved : goal.loop-reader-preserved
loop-reader-preserved c =
    norms-next c.args.readers.now c.loop-reader.reader-index c.reader-item.result c.args.name.now c.loop-reader.writer c.add_source.new.writer _ c.loop-reader-test.true c.reader-item.is c.column_of.ensures.norms c.in-Ok.ensures ∙ c.loop-reader.invariant
