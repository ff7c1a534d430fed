use Rattle.std.proofs.Common.{◌≡◌, ◌+◌, List, ℕ, length, All}
use Rattle.std.specs.Vec.Iter.{into_iter_items, into_iter_len}
use Rattle.lu_listing.specs.Printing.{page, Prints}
use Rattle.lu_reads.specs.Holding.{IsMade}
use Rattle.lu_reads.proofs.ReachedLemmas.{LeadsOn}
use Rattle.lu_reads.proofs.reaching.reach_segments.Given as goal

-- a text of the segments so far was handed to the printer, and with one of those that are left it is one of all
abbrev pub invariant-loop-standing : goal.invariant-loop-standing
invariant-loop-standing g l = record {
  lines : List ℕ;
  prints : Prints (page l.initial.printer (g.K.Sink.taken l.initial.out) (g.K.Sink.faults l.initial.out)) (page l.printer (g.K.Sink.taken l.out) (g.K.Sink.faults l.out)) lines;
  leads : LeadsOn l.wanted.field.now l.wanted.text.now l.wanted.from l.fn.segments.items l.place (into_iter_items l.standing-iterator) lines;
  made : All IsMade (into_iter_items l.standing-iterator);
  left : into_iter_len l.standing-iterator ≡ length (into_iter_items l.standing-iterator);
  count : l.place + length (into_iter_items l.standing-iterator) ≡ length l.fn.segments.items;
}
