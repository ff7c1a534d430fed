use Rattle.std.proofs.Common.{sym}
use Rattle.segment_infos.specs.Records.{user as user_of, map_shape}
use Rattle.segment_infos.specs.Format.{of_user}
use Rattle.segment_infos.proofs.Judged.{wrapped-good, wrapped-broken, wrapped-stopped}
use Rattle.segment_infos.proofs.reading.user.Goals as goal

pub returns-in-Err : goal.returns-in-Err
returns-in-Err c = rw c.unread.ensures (wrapped-stopped map_shape (λ m. user_of m) of_user c.args.cur.now c.map_parts.new.cur c.map_parts.new.cur c.in-Err.stop c.in-Err.ensures)

pub returns-in-Some : goal.returns-in-Some
returns-in-Some c = wrapped-broken map_shape (λ m. user_of m) of_user c.args.cur.now c.in-Ok.map c.map_parts.new.cur c.in-Some.rule c.in-Ok.ensures (sym c.in-Some.ensures)

pub returns-in-None : goal.returns-in-None
returns-in-None c = wrapped-good map_shape (λ m. user_of m) of_user c.args.cur.now c.in-Ok.map c.map_parts.new.cur c.in-Ok.ensures (sym c.in-None.ensures)
