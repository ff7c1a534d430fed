use Rattle.std.proofs.Common.{◌≡◌, suc, ◌-◌, ◌*◌, ◌^◌, ◌<◌, ◌≤◌, List}
use Rattle.lu_grammar.specs.Bytes.{IsBytes, place_in}
use Rattle.freq_skips.specs.declared.datum.Point.{Point}
use Rattle.freq_skips.specs.Entries.{postings_from, IsBehindEntries}
use Rattle.freq_skips.specs.Levels.{level_of, data_count, Follows}
use Rattle.freq_skips.specs.Walking.{FollowsAbove, StandAbove}
use Rattle.freq_skips.proofs.level.check_data.Given as goal

abbrev pub invariant-loop-data : goal.invariant-loop-data
invariant-loop-data l =
    let start = place_in l.entries.frq.now l.entries.start in
    let postings = postings_from l.entries.term start in
    record {
      count : l.data.1.1.0 ≡ data_count l.entries.term l.level.number;
      bytes : IsBytes l.data.0.cur.rest;
      behind : l.data.1.0.place ≤ l.data.0.cur.place;
      within : l.data.0.count ≤ l.data.1.1.0;
      few : l.data.1.1.0 < 2 ^ 31;
      number : l.data.1.0.number ≡ l.level.number;
      place : l.data.1.0.place ≡ l.at;
      stands : IsBehindEntries l.entries.term start l.passing.index l.passing.doc l.passing.cur;
      before : l.passing.index ≤ l.data.0.count * l.level.stride;
      goes_on : (points : List (List Point)) → StandAbove l.entries.term postings (suc l.level.number) points l.entries.frq.now l.fn.above
          → FollowsAbove l.entries.term postings (suc l.level.number) points l.data.0.count l.above
          × Follows l.entries.term postings (level_of l.level.number l.level.stated points) (place_in l.entries.frq.now l.at) l.data.0.count l.data.0.last l.data.0.cur;
    }

abbrev pub decreases-loop-data : goal.decreases-loop-data
decreases-loop-data l = l.data.1.1.0 - l.data.0.count
