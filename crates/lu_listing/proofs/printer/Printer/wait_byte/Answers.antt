use Rattle.std.proofs.Common.{◌++◌, ◌∷◌, [], length, ap, ◌∙◌, arith}
use Rattle.std.proofs.lemmas.List.{take_more_set, length-take-le}
use Rattle.lu_listing.specs.Printing.{PrinterState}
use Rattle.lu_listing.proofs.PrinterLemmas.{prints-more}
use Rattle.lu_listing.proofs.printer.Printer.wait_byte.Goals as goal

pub returns : goal.returns
returns c = λ taken faults.
    let printer = c.self.inside in
    let used = length-take-le printer.used printer.room.items (omega (arith, c.self.invariant.whole, c.self.invariant.within)) in
    prints-more c.args.self.now _ (c.args.byte ∷ []) taken faults (ap (λ (s : PrinterState). s.failed) c.self.view_is)
    (take_more_set printer.room.items printer.used c.args.byte (omega (arith, used, ap (λ (s : PrinterState). length s.waiting) c.self.view_is, c.requires, c.self.invariant.whole))
    ∙ ap (λ (s : PrinterState). s.waiting ++ c.args.byte ∷ []) c.self.view_is)
