use Rattle.std.proofs.Common.{◌∙◌, subst}
use Rattle.stored_fields.specs.InnerWriting.{AreHeld}
use Rattle.stored_fields.proofs.HeldLemmas.{all_finished}
use Rattle.stored_fields.proofs.writer.StoredWriter.finish.Goals as goal

pub returns-clause-fdx : goal.returns-clause-fdx
returns-clause-fdx c =
    let s = c.self.inside in
    c.new.ensures ∙ (all_finished s.fdx.items s.fdt.items s.lacks c.args.self (subst (AreHeld s.fdx.items s.fdt.items s.lacks) c.self.view_is c.self.invariant) c.requires).0

pub returns-clause-fdt : goal.returns-clause-fdt
returns-clause-fdt c =
    let s = c.self.inside in
    c.new-2.ensures ∙ (all_finished s.fdx.items s.fdt.items s.lacks c.args.self (subst (AreHeld s.fdx.items s.fdt.items s.lacks) c.self.view_is c.self.invariant) c.requires).1

pub returns-clause-storable : goal.returns-clause-storable
returns-clause-storable c =
    let s = c.self.inside in (all_finished s.fdx.items s.fdt.items s.lacks c.args.self (subst (AreHeld s.fdx.items s.fdt.items s.lacks) c.self.view_is c.self.invariant) c.requires).2
