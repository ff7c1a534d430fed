use Rattle.std.proofs.Common.{ap, sym, subst, ◌∙◌}
use Rattle.lu_dir.specs.Files.{AreMadeOfBytes, without_file}
use Rattle.lu_dir.specs.FileMap.{files_of}
use Rattle.lu_dir.proofs.HeldFiles.{files_of-removed}
use Rattle.lu_dir.proofs.BytesLemmas.{AreMadeOfBytes-without_file}
use Rattle.lu_dir.proofs.file_map.FileMap.remove.Goals as goal

pub returns : goal.returns
returns c = files_of-removed c.args.name.now c.self.inside.held c.remove.new.self c.remove.ensures.updates ∙ ap (without_file c.args.name.now) c.self.view_is

pub invariant_of-self : goal.invariant_of-self
invariant_of-self c =
    subst AreMadeOfBytes (sym (files_of-removed c.args.name.now c.self.inside.held c.remove.new.self c.remove.ensures.updates))
    (AreMadeOfBytes-without_file c.args.name.now (files_of c.self.inside.held) c.self.invariant)
