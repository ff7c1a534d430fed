use Rattle.std.proofs.Common.{◌≡◌, ℕ, ◌-◌, ◌<◌, ◌≤◌, false}
use Rattle.freq_skips.specs.Levels.{level_count}
use Rattle.positions.specs.Occurrences.{tells_other_sum}
use Rattle.positions.specs.Walked.{posted_by}
use Rattle.positions.proofs.reading.is_other_sum.Given as goal

abbrev pub invariant-loop-datum : goal.invariant-loop-datum
invariant-loop-datum l = record { within : l.level ≤ level_count l.walk.term; below : (n : ℕ) → n < l.level → tells_other_sum (posted_by l.walk) l.walk.passed l.so_far n ≡ false }

abbrev pub decreases-loop-datum : goal.decreases-loop-datum
decreases-loop-datum l = level_count l.walk.term - l.level
