use Rattle.std.proofs.Common.{length}
use Rattle.hex.specs.Hex.{encode_lower}
use Rattle.lu_listing.specs.Printing.{page}
use Rattle.lu_listing.proofs.PrintingLemmas.{Lacks}
use Rattle.lu_listing.proofs.pieces.hex_text.Given as goal

-- the digits of the bytes left are left
abbrev pub invariant-loop-rest : goal.invariant-loop-rest
invariant-loop-rest g l =
    Lacks (page l.fn.printer (g.K.Sink.taken l.fn.out) (g.K.Sink.faults l.fn.out)) (page l.printer (g.K.Sink.taken l.out) (g.K.Sink.faults l.out)) (encode_lower l.rest) (encode_lower l.fn.bytes)

abbrev pub decreases-loop-rest : goal.decreases-loop-rest
decreases-loop-rest g l = length l.rest
