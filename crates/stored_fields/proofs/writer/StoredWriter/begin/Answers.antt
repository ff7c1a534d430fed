use Rattle.std.proofs.Common.{◌≡◌, ◌++◌, rules, length, subst}
use Rattle.stored_fields.specs.Writing.{place_bytes}
use Rattle.stored_fields.specs.InnerWriting.{AreHeld}
use Rattle.stored_fields.proofs.HeldLemmas.{begun_held}
use Rattle.stored_fields.proofs.writer.StoredWriter.begin.Goals as goal

pub invariant_of-self-in-Ok : goal.invariant_of-self-in-Ok
invariant_of-self-in-Ok c =
    let s = c.self.inside in
    let before : AreHeld s.fdx.items s.fdt.items s.lacks c.args.self.now = subst (AreHeld s.fdx.items s.fdt.items s.lacks) c.self.view_is c.self.invariant in
    let place : c.put_i64.new.out.items ≡ s.fdx.items ++ place_bytes (length s.fdt.items) = search rules in
    (begun_held s.fdx.items s.fdt.items c.put_i64.new.out.items c.put_vint.new.out.items s.lacks c.args.count c.args.self.now before c.requires.complete c.requires.few place c.in-Ok.ensures.ok).invariant

pub returns-in-Ok-clause-ok : goal.returns-in-Ok-clause-ok
returns-in-Ok-clause-ok c =
    let s = c.self.inside in
    let before : AreHeld s.fdx.items s.fdt.items s.lacks c.args.self.now = subst (AreHeld s.fdx.items s.fdt.items s.lacks) c.self.view_is c.self.invariant in
    let place : c.put_i64.new.out.items ≡ s.fdx.items ++ place_bytes (length s.fdt.items) = search rules in
    (begun_held s.fdx.items s.fdt.items c.put_i64.new.out.items c.put_vint.new.out.items s.lacks c.args.count c.args.self.now before c.requires.complete c.requires.few place c.in-Ok.ensures.ok).is
