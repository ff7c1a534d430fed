use Rattle.std.proofs.Common.{◌≡◌, ℕ, ◌-◌, ◌<◌, ◌≤◌, false}
use Rattle.freq_skips.specs.Levels.{level_count}
use Rattle.positions.specs.Occurrences.{carries_other_length}
use Rattle.positions.specs.Walked.{posted_by}
use Rattle.positions.proofs.reading.is_other_length.Given as goal

abbrev pub invariant-loop-datum : goal.invariant-loop-datum
invariant-loop-datum l = record { within : l.number ≤ level_count l.walk.term; below : (n : ℕ) → n < l.number → carries_other_length (posted_by l.walk) l.walk.passed l.force n ≡ false }

abbrev pub decreases-loop-datum : goal.decreases-loop-datum
decreases-loop-datum l = level_count l.walk.term - l.number
