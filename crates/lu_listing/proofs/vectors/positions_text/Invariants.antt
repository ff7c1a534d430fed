use Rattle.std.proofs.Common.{◌≡◌, length}
use Rattle.std.specs.List.{flat_map}
use Rattle.lu_listing.specs.Printing.{page}
use Rattle.lu_listing.specs.Listing.{position_text}
use Rattle.lu_listing.proofs.PrintingLemmas.{Lacks}
use Rattle.lu_listing.proofs.vectors.positions_text.Given as goal

-- the positions that were not taken are left, and nothing else was taken
abbrev pub invariant-loop-position : goal.invariant-loop-position
invariant-loop-position g l =
    Lacks (page l.fn.printer (g.K.Sink.taken l.fn.out) (g.K.Sink.faults l.fn.out)) (page l.printer (g.K.Sink.taken l.out) (g.K.Sink.faults l.out))
    (flat_map position_text l.terms.positions) (flat_map position_text l.fn.terms.positions)
    × (l.terms ≡ record l.fn.terms { positions = l.terms.positions })

abbrev pub decreases-loop-position : goal.decreases-loop-position
decreases-loop-position g l = length l.terms.positions
