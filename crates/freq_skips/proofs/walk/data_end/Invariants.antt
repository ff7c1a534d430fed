use Rattle.std.proofs.Common.{◌≡◌, ℕ, List, Option}
use Rattle.lu_grammar.specs.Bytes.{Cursor, place_in}
use Rattle.freq_skips.specs.declared.datum.Point.{Point}
use Rattle.freq_skips.specs.Entries.{Posting}
use Rattle.freq_skips.specs.Levels.{level_of, data_count, Follows, AreData}
use Rattle.freq_skips.proofs.walk.data_end.Given as goal

abbrev pub invariant-loop-turn : goal.invariant-loop-turn
invariant-loop-turn l = record {
  goes_on : (postings : List Posting) (stated : Option ℕ) (above : List (List Point)) (points : List Point) (end : Cursor) → l.count ≡ data_count l.term l.number → AreData l.term postings (level_of l.number stated above) (place_in l.frq l.start) points end
      → Follows l.term postings (level_of l.number stated above) (place_in l.frq l.start) l.following.count l.following.last l.following.cur × (l.following.count ≡ l._turn);
}
