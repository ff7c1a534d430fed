use Rattle.std.proofs.Common.{rules}
use Rattle.lu_listing.specs.Printing.{page}
use Rattle.lu_listing.proofs.PrintingLemmas.{prints-failed}
use Rattle.lu_listing.proofs.PrinterLemmas.{prints-ended}
use Rattle.lu_listing.proofs.printer.Printer.give_up.Goals as goal

pub returns-then-is_none-clause-printed : goal.returns-then-is_none-clause-printed
returns-then-is_none-clause-printed c = λ taken faults text. prints-ended c.args.self.now _ text taken faults (search rules) (search rules)

pub returns-else-is_none-clause-printed : goal.returns-else-is_none-clause-printed
returns-else-is_none-clause-printed c = λ taken faults text. prints-failed (page c.args.self.now taken faults) text (search rules)
