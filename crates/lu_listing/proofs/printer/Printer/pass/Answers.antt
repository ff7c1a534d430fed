use Rattle.std.proofs.Common.{◌++◌, List, ℕ, ap, sym, rules}
use Rattle.lu_listing.specs.Printing.{page}
use Rattle.lu_listing.proofs.PrintingLemmas.{prints-failed}
use Rattle.lu_listing.proofs.PrinterLemmas.{prints-handed}
use Rattle.lu_listing.proofs.printer.Printer.pass.Goals as goal

pub returns-then-is_none : goal.returns-then-is_none
returns-then-is_none g c =
    prints-handed c.args.self.now _ c.write_all.result c.args.bytes.now c.args.bytes.now _ _ _ _ (search rules) (search rules) (search rules)
    (sym (ap (λ (w : List ℕ). w ++ c.args.bytes.now) c.requires)) c.write_all.ensures.taken c.write_all.ensures.partly c.write_all.ensures.cause

pub returns-else-is_none : goal.returns-else-is_none
returns-else-is_none g c = prints-failed (page c.args.self.now (g.K.Sink.taken c.args.out.now) (g.K.Sink.faults c.args.out.now)) c.args.bytes.now (search rules)
