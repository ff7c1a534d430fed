use Rattle.lu_grammar.specs.Bytes.{place_in}
use Rattle.std.proofs.Common.{◌≡◌, ◌^◌, ◌<◌, ◌≤◌, List, [], length}
use Rattle.std.specs.Prelude.{IfSome}
use Rattle.lu_grammar.specs.Plans.{read_plan}
use Rattle.freq_skips.specs.declared.datum.Point.{Point}
use Rattle.freq_skips.specs.Entries.{postings_from}
use Rattle.freq_skips.specs.Levels.{level_count, levels}
use Rattle.freq_skips.specs.Walking.{StandAbove}
use Rattle.freq_skips.proofs.levels.check_levels.Given as goal

abbrev pub invariant-loop-number : goal.invariant-loop-number
invariant-loop-number l =
    let postings = postings_from l.entries.term (place_in l.entries.frq.now l.entries.start) in
    record {
      stride : l.stride ≡ l.entries.term.rules.skip_interval ^ l.number;
      few : l.number < 2 ^ 32;
      place_within : l.place ≤ length l.entries.frq.now;
      above_within : IfSome l.above (λ place. place ≤ length l.entries.frq.now);
      points : List (List Point);
      stand : StandAbove l.entries.term postings l.number points l.entries.frq.now l.above;
      so_far : read_plan (levels l.entries.term postings (level_count l.entries.term) []) (place_in l.entries.frq.now l.at) ≡ read_plan (levels l.entries.term postings l.number points) (place_in l.entries.frq.now l.place);
    }

abbrev pub decreases-loop-number : goal.decreases-loop-number
decreases-loop-number l = l.number
