-- Segments that are merged, with the tree over their first terms.
use Rattle.std.specs.Prelude.{◌<◌, ◌^◌, length, slice_index}
use Rattle.seg_merger.specs.TermHeads.{IsTournament}
use Rattle.seg_merger.specs.TermRests.{Contested, rest_heads}
use Rattle.seg_merger.specs.declared.terms.contest.Contest.TheInside.{Inside}

-- the segments, and the one at the root
abbrev pub contested : Inside → Contested
contested c = record { rests = c.slots.items; first = slice_index c.tree.items 1 }

-- the tree is one over them
pub record IsContest (c : Inside) : Type 0 where
  pub tournament : IsTournament (rest_heads c.slots.items) c.tree.items
  pub some : 0 < length c.slots.items
  pub few : length c.slots.items < 2 ^ 32
