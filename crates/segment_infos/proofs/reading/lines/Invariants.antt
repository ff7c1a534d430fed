use Rattle.std.proofs.Common.{◌≡◌, Ok, []}
use Rattle.lu_grammar.specs.Plans.{times, read_plan}
use Rattle.segment_infos.specs.Format.{lines_kind}
use Rattle.segment_infos.proofs.reading.lines.Given as goal

-- the segments so far were read, and the cursor is behind them
abbrev pub invariant-loop : goal.invariant-loop
invariant-loop l = read_plan (times lines_kind l.counter []) l.fn.cur ≡ Ok (l.taking, l.cur)
