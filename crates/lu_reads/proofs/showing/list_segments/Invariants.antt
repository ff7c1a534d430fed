use Rattle.std.proofs.Common.{◌≡◌, ◌+◌, ◌++◌, ℕ, List, length}
use Rattle.std.specs.Vec.Iter.{into_iter_items}
use Rattle.lu_listing.specs.Printing.{page, Prints}
use Rattle.lu_reads.specs.Showing.{listing_of}
use Rattle.lu_reads.proofs.HoldingLemmas.{listing_from}
use Rattle.lu_reads.proofs.showing.list_segments.Given as goal

-- the listing of the segments so far was handed to the printer, and that of those that are left follows it
abbrev pub invariant-loop-standing : goal.invariant-loop-standing
invariant-loop-standing g l = record {
  text : List ℕ;
  prints : Prints (page l.initial.printer (g.K.Sink.taken l.initial.out) (g.K.Sink.faults l.initial.out)) (page l.printer (g.K.Sink.taken l.out) (g.K.Sink.faults l.out)) text;
  split : text ++ listing_from l.place (into_iter_items l.standing-iterator) ≡ listing_of l.fn.segments.items;
  count : l.place + length (into_iter_items l.standing-iterator) ≡ length l.fn.segments.items;
}
