use Rattle.std.proofs.Common.{◌≡◌, ℕ, ◌+◌, ◌-◌, ◌*◌, ◌^◌, ◌<◌, ◌≤◌, length}
use Rattle.std.specs.Prelude.{slice_index_or}
use Rattle.freq_skips.specs.Entries.{postings_from}
use Rattle.freq_skips.specs.Levels.{level_count}
use Rattle.freq_skips.specs.Walks.{IsOnLevel, IsDatumOfLast, no_level_place, start_in, points_in}
use Rattle.freq_skips.proofs.walk.pass_data_of.Given as goal

abbrev pub invariant-loop-level : goal.invariant-loop-level
invariant-loop-level l =
    let postings = postings_from l.term (start_in l.term l.frq) in
    record {
      within : l.level ≤ l.count;
      size : length l.places ≡ 32;
      whole : l.quotient * l.term.rules.skip_interval ^ l.level ≡ l.index + 1;
      fresh : (n : ℕ) → n < l.level → IsDatumOfLast l.term l.frq n (l.index + 1) (slice_index_or l.places n no_level_place).last;
      low : (n : ℕ) → n < l.level → IsOnLevel l.term postings n (points_in l.term l.frq n) l.frq (l.index + 1) (slice_index_or l.places n no_level_place);
      high : (n : ℕ) → l.level ≤ n → n < level_count l.term → IsOnLevel l.term postings n (points_in l.term l.frq n) l.frq l.index (slice_index_or l.places n no_level_place);
    }

abbrev pub decreases-loop-level : goal.decreases-loop-level
decreases-loop-level l = l.count - l.level
