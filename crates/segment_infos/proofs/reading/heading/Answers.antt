use Rattle.std.proofs.Common.{sym}
use Rattle.segment_infos.specs.Records.{heading as heading_of, heading_shape}
use Rattle.segment_infos.specs.Format.{of_heading}
use Rattle.segment_infos.proofs.Judged.{wrapped-good, wrapped-broken, wrapped-unread}
use Rattle.segment_infos.proofs.reading.heading.Goals as goal

pub returns-in-Err : goal.returns-in-Err
returns-in-Err c = rw c.rule_of.ensures (wrapped-unread heading_shape (λ h. heading_of h) of_heading c.args.cur.now c.in-Err.bad c.in-Err.ensures)

pub returns-in-Some : goal.returns-in-Some
returns-in-Some c = wrapped-broken heading_shape (λ h. heading_of h) of_heading c.args.cur.now c.in-Ok.heading c.heading_parts.new.cur c.in-Some.rule c.in-Ok.ensures (sym c.in-Some.ensures)

pub returns-in-None : goal.returns-in-None
returns-in-None c = wrapped-good heading_shape (λ h. heading_of h) of_heading c.args.cur.now c.in-Ok.heading c.heading_parts.new.cur c.in-Ok.ensures (sym c.in-None.ensures)
