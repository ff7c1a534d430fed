use Rattle.std.proofs.Common.{sym}
use Rattle.segment_infos.specs.Records.{line as line_of, line_shape}
use Rattle.segment_infos.specs.Format.{of_line}
use Rattle.segment_infos.proofs.Judged.{wrapped-good, wrapped-broken, wrapped-stopped}
use Rattle.segment_infos.proofs.reading.line.Goals as goal

pub returns-in-Err-clause-gives : goal.returns-in-Err-clause-gives
returns-in-Err-clause-gives c =
    rw c.unread.ensures (wrapped-stopped line_shape (λ l. line_of l) (of_line c.args.taking.now) c.args.cur.now c.line_parts.new.cur c.line_parts.new.cur c.in-Err.stop c.in-Err.ensures)

pub returns-in-Some-clause-gives : goal.returns-in-Some-clause-gives
returns-in-Some-clause-gives c =
    wrapped-broken line_shape (λ l. line_of l) (of_line c.args.taking.now) c.args.cur.now c.in-Ok.line c.line_parts.new.cur c.in-Some.rule c.in-Ok.ensures (sym c.in-Some.ensures)

pub returns-clause-gives : goal.returns-clause-gives
returns-clause-gives c = wrapped-good line_shape (λ l. line_of l) (of_line c.args.taking.now) c.args.cur.now c.in-Ok.line c.line_parts.new.cur c.in-Ok.ensures (sym c.in-None.ensures)
