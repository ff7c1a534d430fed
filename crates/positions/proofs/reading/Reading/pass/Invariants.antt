use Rattle.std.proofs.Common.{◌≡◌, ℕ, Ok}
use Rattle.lu_grammar.specs.Bytes.{Cursor}
use Rattle.lu_grammar.specs.Plans.{times, read_plan}
use Rattle.positions.specs.Standing.{passed_kind}
use Rattle.positions.proofs.reading.Reading.pass.Given as goal

abbrev pub invariant-loop-turn : goal.invariant-loop-turn
invariant-loop-turn l = record {
  payloads : l.self.payloads ≡ l.initial.self.payloads;
  passes : (f : ℕ) (d : Cursor) → read_plan (times (passed_kind l.initial.self.payloads) l.count l.initial.self.force) l.initial.self.cur ≡ Ok (f, d)
      → read_plan (times (passed_kind l.initial.self.payloads) l._turn l.initial.self.force) l.initial.self.cur ≡ Ok (l.self.force, l.self.cur);
}
