use Rattle.std.proofs.Common.{map, string_bytes, subst}
use Rattle.segment_infos.specs.Keeping.{kept_value, HasNames}
use Rattle.segment_infos.proofs.KeptNames.{free-removable}
use Rattle.segment_infos.proofs.removing.removable_all.Goals as goal

pub returns : goal.returns
returns c =
    free-removable c.free_names.result c.in_ok-kept-2.kept c.in_ok-kept.kept.items (map kept_value c.args.kept.now) (map string_bytes c.args.names.now) c.free_names.ensures c.in_ok-kept.ensures.own
    (subst (HasNames c.in_ok-kept-2.kept) c.as_slice.ensures.value c.in_ok-kept-2.ensures) c.in_ok-kept.ensures.names
