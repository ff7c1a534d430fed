use Rattle.std.proofs.Common.{◌≡◌, ◌-◌, ◌^◌, ◌<◌, ◌≤◌, ◌⊎◌}
use Rattle.freq_skips.proofs.level.greatest_power.Given as goal

abbrev pub invariant-loop-count : goal.invariant-loop-count
invariant-loop-count l = record {
  power : l.power ≡ l.base ^ l.count;
  low : (l.count ≡ 0) ⊎ (l.power ≤ l.number);
  small : l.power < 2 ^ 32;
  within : l.count ≤ l.most;
}

abbrev pub decreases-loop-count : goal.decreases-loop-count
decreases-loop-count l = l.most - l.count
