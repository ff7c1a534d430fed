use Rattle.std.proofs.Common.{◌≡◌, ◌≤◌, ◌*◌, ◌++◌, List, length}
use Rattle.std.specs.Prelude.{flat_map}
use Rattle.std.specs.Vec.Iter.{into_iter_items, into_iter_len}
use Rattle.lu_model.specs.Contents.{live}
use Rattle.seg_merger.specs.Merged.{indexes_of}
use Rattle.lu_changes.proofs.merging.join.Given as goal

-- the segments so far, and those that are left, are all; so many documents of those so far are live
abbrev pub invariant-loop-standing : goal.invariant-loop-standing
invariant-loop-standing l = record {
  all : l.sources ++ into_iter_items l.standing-iterator ≡ l.fn.segments.items;
  counted : l.count ≡ length (flat_map live (indexes_of l.sources));
  left : into_iter_len l.standing-iterator ≡ length (into_iter_items l.standing-iterator);
  few : l.count ≤ length l.sources * 4294967296;
}
