use Rattle.std.proofs.Common.{sym, refl, subst, length, rules}
use Rattle.lu_dir.specs.Files.{AreMadeOfBytes}
use Rattle.lu_dir.specs.FileMap.{files_of}
use Rattle.lu_dir.proofs.BytesLemmas.{AreMadeOfBytes-with_patch}
use Rattle.lu_dir.proofs.HeldFiles.{range_held, no_range_held, files_of-patched}
use Rattle.lu_dir.proofs.file_map.FileMap.write_over.Goals as goal

pub write_at-requires : goal.write_at-requires
write_at-requires c = range_held c.self.inside.held c.args.self.now c.args.name.now c.args.at (length c.args.bytes.now) _ c.self.view_is (sym c.in-Some.ensures.value) c.requires

pub returns : goal.returns
returns c =
    files_of-patched c.args.name.now c.self.inside.held (c.get_mut.follows.lender c.write_at.new.held) c.args.self.now c.args.at c.args.bytes.now c.in-Some.held.now c.write_at.new.held
    c.self.view_is (sym c.in-Some.ensures.value) c.write_at.ensures ((c.get_mut.follows.holds c.write_at.new.held).3 (search rules))

pub invariant_of-self-2 : goal.invariant_of-self-2
invariant_of-self-2 c =
    subst AreMadeOfBytes
    (sym (files_of-patched c.args.name.now c.self.inside.held (c.get_mut.follows.lender c.write_at.new.held) (files_of c.self.inside.held) c.args.at c.args.bytes.now c.in-Some.held.now c.write_at.new.held
    refl (sym c.in-Some.ensures.value) c.write_at.ensures ((c.get_mut.follows.holds c.write_at.new.held).3 (search rules))))
    (AreMadeOfBytes-with_patch c.args.name.now c.args.at c.args.bytes.now (files_of c.self.inside.held) c.self.invariant (λ i. (c.type_inv.bytes i).fits))

pub returns-in_default : goal.returns-in_default
returns-in_default c = absurd (no_range_held c.self.inside.held c.args.self.now c.args.name.now c.args.at (length c.args.bytes.now) c.self.view_is (sym c.in_default.ensures.value) c.requires)
