use Rattle.std.proofs.Common.{◌≡◌, Ok, [], length}
use Rattle.lu_grammar.specs.Plans.{times, read_plan}
use Rattle.field_infos.specs.Fnm.{one_field}
use Rattle.field_infos.proofs.reading.fields.Given as goal

-- the table has the fields that were read, and the cursor is behind them
abbrev pub invariant-loop : goal.invariant-loop
invariant-loop l = record {
  read : read_plan (times (one_field l.has_prox) l.counter []) l.fn.cur ≡ Ok (l.table, l.cur);
  number : length l.table ≡ l.counter;
}
