use Rattle.std.proofs.Common.{[], sym, rules, append-nil}
use Rattle.lu_listing.proofs.PrinterLemmas.{prints-handed, prints-dropped}
use Rattle.lu_listing.proofs.printer.Printer.send.Goals as goal
use Rattle.lu_listing.proofs.printer.Printer.send.Goals.{then-is_none, else-is_none}

pub returns-clause-printed : goal.returns-clause-printed
returns-clause-printed g c =
    elim c.if-is_none.branch [
      | then-is_none w ↦
          rw w.out-is (prints-handed c.args.self.now _ w.write_all.result c.args.self.now.waiting [] _ _ _ _ (search rules) (search rules) (search rules)
          (sym (append-nil c.args.self.now.waiting)) (search rules) (search rules) (search rules))
      | else-is_none w ↦ rw w.out-is (prints-dropped c.args.self.now _ [] _ _ (search rules) (search rules))
    ]
