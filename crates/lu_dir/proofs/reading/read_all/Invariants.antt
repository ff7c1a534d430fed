use Rattle.std.proofs.Common.{length, ◌-◌, ◌≡◌, take, drop, ◌≤◌, ◌<◌, Some}
use Rattle.std.specs.Option.{ForSome}
use Rattle.lu_dir.proofs.reading.read_all.Given as goal

abbrev pub invariant-loop-bytes : goal.invariant-loop-bytes
invariant-loop-bytes g l = record {
  left : ForSome (g.S.Source.left l.initial.src) (λ left. g.S.Source.left l.src ≡ Some (drop (length l.bytes.items) left));
  read : ForSome (g.S.Source.left l.initial.src) (λ left. l.bytes.items ≡ take (length l.bytes.items) left);
  within : length l.bytes.items ≤ l.limit;
  room : 0 < length l.piece;
  later : g.S.Source.faults l.initial.src ≤ g.S.Source.faults l.src;
}

abbrev pub decreases-loop-bytes : goal.decreases-loop-bytes
decreases-loop-bytes g l = l.limit - length l.bytes.items
