use Rattle.segment_infos.proofs.NameParts.{part-no_segment, part-no_kind}
use Rattle.segment_infos.proofs.naming.part_value.Goals as goal

pub returns-in_err-segment : goal.returns-in_err-segment
returns-in_err-segment c = rw c.from_residual.ensures (part-no_segment c.args.digits.now c.args.extension.now c.requires c.in_err-segment.ensures)

pub returns-in_err-kind : goal.returns-in_err-kind
returns-in_err-kind c = rw c.from_residual-in_err-kind.ensures (part-no_kind c.args.digits.now c.args.extension.now c.requires c.in_err-kind.ensures)
