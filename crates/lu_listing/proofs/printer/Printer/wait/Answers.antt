use Rattle.std.proofs.Common.{◌+◌, ◌++◌, length, take, ap, ◌∙◌, arith}
use Rattle.lu_listing.specs.Printing.{PrinterState}
use Rattle.lu_listing.proofs.PrinterLemmas.{prints-more}
use Rattle.lu_listing.proofs.RoomLemmas.{follow-written}
use Rattle.lu_listing.proofs.printer.Printer.wait.Goals as goal

pub returns : goal.returns
returns c = λ taken faults.
    let printer = c.self.inside in
    let bytes = c.args.bytes.now in
    prints-more c.args.self.now _ bytes taken faults (ap (λ (s : PrinterState). s.failed) c.self.view_is)
    (ap (take (printer.used + length bytes)) c.write_over.ensures
    ∙ follow-written printer.room.items bytes printer.used (omega (arith, c.self.invariant.whole, c.self.invariant.within))
    ∙ ap (λ (s : PrinterState). s.waiting ++ bytes) c.self.view_is)
