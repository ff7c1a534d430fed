use Rattle.std.proofs.Common.{Some, sym, ap, ◌∙◌}
use Rattle.std.specs.Option.{option_map}
use Rattle.lu_dir.specs.Files.{contents}
use Rattle.lu_dir.proofs.HeldFiles.{contents-files_of}
use Rattle.lu_dir.proofs.file_map.FileMap.get.Goals as goal

pub returns-in-Some : goal.returns-in-Some
returns-in-Some c =
    ap Some c.as_slice.ensures.value
    ∙ ap (option_map (λ bytes. bytes.items)) c.in-Some.ensures.value
    ∙ sym (contents-files_of c.self.inside.held c.args.name.now)
    ∙ ap (λ files. contents files c.args.name.now) c.self.view_is

pub returns-in-None : goal.returns-in-None
returns-in-None c =
    ap (option_map (λ bytes. bytes.items)) c.in-None.ensures.value
    ∙ sym (contents-files_of c.self.inside.held c.args.name.now)
    ∙ ap (λ files. contents files c.args.name.now) c.self.view_is
