use Rattle.seg_writer.specs.PartsGathered.{part_files}
use Rattle.seg_writer.proofs.SegmentLemmas.{packs}
use Rattle.seg_writer.proofs.segment.files_of.Goals as goal

pub returns : goal.returns
returns c = packs c.args.options.now (part_files c.args.parts) c.in_ok-files.files c.packed.result c.in_ok-files.ensures c.packed.ensures.parts c.packed.ensures.packed
