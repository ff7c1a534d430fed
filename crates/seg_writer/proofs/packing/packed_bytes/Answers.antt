use Rattle.seg_writer.proofs.PackingLemmas.{checked-apart, checked-parts}
use Rattle.seg_writer.proofs.packing.packed_bytes.Goals as goal

pub pack-requires-clause-parts : goal.pack-requires-clause-parts
pack-requires-clause-parts c = checked-parts c.args.files.now c.requires

pub pack-requires-clause-apart : goal.pack-requires-clause-apart
pack-requires-clause-apart c = checked-apart c.args.files.now c.requires
