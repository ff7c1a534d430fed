use Rattle.std.proofs.Common.{◌≡◌, ℕ, ◌-◌, ◌≤◌}
use Rattle.lu_grammar.specs.Bytes.{IsBytes, Cursor, place_in}
use Rattle.positions.specs.Standing.{Skims}
use Rattle.positions.proofs.placing.force_before.Given as goal

abbrev pub invariant-loop-reading : goal.invariant-loop-reading
invariant-loop-reading l = record {
  payloads : l.reading.payloads ≡ l.payloads;
  bytes : IsBytes l.reading.cur.rest;
  count : ℕ;
  skims : Skims l.payloads (place_in l.prx l.start) count l.reading.force l.reading.cur;
  within : (n force : ℕ) → Skims l.payloads (place_in l.prx l.start) n force (place_in l.prx l.place) → count ≤ n;
}

abbrev pub decreases-loop-reading : goal.decreases-loop-reading
decreases-loop-reading l = l.place - l.reading.cur.place
