use Rattle.std.proofs.Common.{◌≡◌, ℕ, ◌+◌, ◌^◌, ◌<◌, ◌≤◌, List, length, Ok}
use Rattle.std.specs.Prelude.{slice_index_or}
use Rattle.lu_grammar.specs.Bytes.{Cursor, place_in}
use Rattle.lu_grammar.specs.Plans.{read_plan}
use Rattle.freq_skips.specs.declared.datum.Point.{Point}
use Rattle.freq_skips.specs.Entries.{postings_from}
use Rattle.freq_skips.specs.Levels.{level_count, levels}
use Rattle.freq_skips.specs.Walks.{IsOnLevel, no_level_place, start_in, points_in, value_from}
use Rattle.freq_skips.proofs.walk.level_starts.Given as goal

abbrev pub invariant-loop-number : goal.invariant-loop-number
invariant-loop-number l =
    let postings = postings_from l.term (start_in l.term l.frq) in
    record {
      within : l.number ≤ l.count;
      size : length l.places ≡ 32;
      stride : l.stride ≡ l.term.rules.skip_interval ^ l.number;
      place_within : l.place ≤ length l.frq;
      above : List (List Point);
      above_count : length above + l.number ≡ l.count;
      end : Cursor;
      reads : read_plan (levels l.term postings l.number above) (place_in l.frq l.place) ≡ Ok ((value_from l.term (start_in l.term l.frq)).levels, end);
      on : (n : ℕ) → l.number ≤ n → n < level_count l.term → IsOnLevel l.term postings n (points_in l.term l.frq n) l.frq 0 (slice_index_or l.places n no_level_place);
    }

abbrev pub decreases-loop-number : goal.decreases-loop-number
decreases-loop-number l = l.number
