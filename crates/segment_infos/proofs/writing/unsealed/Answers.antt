use Rattle.std.proofs.Common.{subst, sym}
use Rattle.segment_infos.specs.Values.{IsMap}
use Rattle.segment_infos.proofs.writing.unsealed.Goals as goal

pub put_map-requires : goal.put_map-requires
put_map-requires c = subst IsMap (sym c.as_slice-2.ensures) c.commit.invariant.user
