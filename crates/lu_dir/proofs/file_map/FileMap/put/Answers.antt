use Rattle.std.proofs.Common.{ap, sym, subst, ◌∙◌, string_bytes}
use Rattle.lu_grammar.specs.Bytes.{IsBytes}
use Rattle.lu_dir.specs.Files.{AreMadeOfBytes, with_file}
use Rattle.lu_dir.specs.FileMap.{files_of}
use Rattle.lu_dir.proofs.HeldFiles.{files_of-put}
use Rattle.lu_dir.proofs.BytesLemmas.{AreMadeOfBytes-with_file}
use Rattle.lu_dir.proofs.file_map.FileMap.put.Goals as goal

pub returns : goal.returns
returns c =
    files_of-put (string_bytes c.in_ok-name.name) c.self.inside.held c.insert.new.self c.args.bytes c.in_ok-insert.ensures.updates
    ∙ ap (λ name. with_file name c.args.bytes.items (files_of c.self.inside.held)) c.in_ok-name.ensures.ok
    ∙ ap (with_file c.args.name.now c.args.bytes.items) c.self.view_is

pub invariant_of-self-2 : goal.invariant_of-self-2
invariant_of-self-2 c =
    subst AreMadeOfBytes (sym (files_of-put (string_bytes c.in_ok-name.name) c.self.inside.held c.insert.new.self c.args.bytes c.in_ok-insert.ensures.updates))
    (AreMadeOfBytes-with_file (string_bytes c.in_ok-name.name) c.args.bytes.items (files_of c.self.inside.held) c.self.invariant (subst IsBytes c.as_slice.ensures.value c.all_bytes.ensures))
