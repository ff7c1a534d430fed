use Rattle.std.proofs.Common.{subst}
use Rattle.stored_fields.specs.Entries.{lent_field}
use Rattle.stored_fields.specs.InnerWriting.{AreHeld}
use Rattle.stored_fields.proofs.HeldLemmas.{stored_held}
use Rattle.stored_fields.proofs.writer.StoredWriter.put.Goals as goal

pub invariant_of-self : goal.invariant_of-self
invariant_of-self c =
    let s = c.self.inside in
    let before : AreHeld s.fdx.items s.fdt.items s.lacks c.args.self.now = subst (AreHeld s.fdx.items s.fdt.items s.lacks) c.self.view_is c.self.invariant in
    (stored_held s.fdx.items s.fdt.items c.push_value.new.out.items s.lacks (lent_field c.args.value) c.args.self.now before c.requires.lacking c.requires.storable c.in-Ok.ensures.ok).1.invariant

pub returns-in-Ok-clause-ok : goal.returns-in-Ok-clause-ok
returns-in-Ok-clause-ok c =
    let s = c.self.inside in
    let before : AreHeld s.fdx.items s.fdt.items s.lacks c.args.self.now = subst (AreHeld s.fdx.items s.fdt.items s.lacks) c.self.view_is c.self.invariant in
    (stored_held s.fdx.items s.fdt.items c.push_value.new.out.items s.lacks (lent_field c.args.value) c.args.self.now before c.requires.lacking c.requires.storable c.in-Ok.ensures.ok).1.is
