use Rattle.std.proofs.Common.{◌≡◌, ◌*◌, ◌≤◌, length}
use Rattle.lu_grammar.specs.Bytes.{moved}
use Rattle.doc_marks.proofs.norms.pass_columns.Given as goal

-- so many columns are there, and the cursor is behind them
abbrev pub invariant-loop : goal.invariant-loop
invariant-loop l = record {
  there : l.counter * l.documents ≤ length l.fn.cur.rest;
  behind : l.cur ≡ moved (l.counter * l.documents) l.fn.cur;
}
