use Rattle.std.proofs.Common.{◌∷◌, ◌∙◌, [], List, sym, ap, subst}
use Rattle.lu_dir.specs.Files.{with_file, CreateLeaves}
use Rattle.lu_folder.specs.declared.new_file.NewFile.{NewFile}
use Rattle.lu_folder.specs.Writing.{with_new_files, WritesOnly}
use Rattle.lu_folder.specs.Changes.{pending_file, written, IsUnmade}
use Rattle.lu_dir.proofs.Told.{Leaves-wider, Leaves-after, changed-changed}
use Rattle.lu_folder.proofs.WritingLemmas.{WritesOnly-among, WritesOnly-more, WritesOnly-made, WritesOnly-create, with_new_files-append}
use Rattle.lu_folder.proofs.change.write_all.Goals as goal

pub returns-in-Err-clause-left : goal.returns-in-Err-clause-left
returns-in-Err-clause-left g c =
    Leaves-wider (WritesOnly c.files.result.now) (IsUnmade c.args.change.now) (g.D.Dir.files c.args.dir.now) (g.D.Dir.files c.put_files.new.dir)
    (λ old new left. WritesOnly-among c.args.change.now.files (pending_file c.args.change.now ∷ []) old new (subst (λ (files : List NewFile). WritesOnly files old new) c.files.ensures left))
    c.in-Err.ensures.left

pub returns-in-Ok-put_file-clause-written : goal.returns-in-Ok-put_file-clause-written
returns-in-Ok-put_file-clause-written g c =
    changed-changed (with_new_files c.files.result.now) (with_file c.pending.result.now.name c.pending.result.now.bytes) (with_new_files (written c.args.change.now)) (g.D.Dir.files c.args.dir.now) (g.D.Dir.files c.put_files.new.dir) (g.D.Dir.files c.put_file.new.dir)
    c.in-Ok.ensures.made c.in-Ok-put_file.ensures.made
    (λ files.
    ap (λ (file : NewFile). with_file file.name file.bytes (with_new_files c.files.result.now files)) c.pending.ensures
    ∙ ap (λ (all : List NewFile). with_file (pending_file c.args.change.now).name (pending_file c.args.change.now).bytes (with_new_files all files)) c.files.ensures
    ∙ sym (with_new_files-append c.args.change.now.files (pending_file c.args.change.now ∷ []) files))

pub returns-in-Err-put_file-clause-left : goal.returns-in-Err-put_file-clause-left
returns-in-Err-put_file-clause-left g c =
    Leaves-after (with_new_files c.files.result.now) (CreateLeaves c.pending.result.now.name c.pending.result.now.bytes) (IsUnmade c.args.change.now) (g.D.Dir.files c.args.dir.now) (g.D.Dir.files c.put_files.new.dir) (g.D.Dir.files c.put_file.new.dir)
    c.in-Ok.ensures.made
    (λ old new left.
    WritesOnly-more c.args.change.now.files (pending_file c.args.change.now ∷ []) old (with_new_files c.args.change.now.files old) new
    (WritesOnly-made c.args.change.now.files old)
    (WritesOnly-create (pending_file c.args.change.now) (with_new_files c.args.change.now.files old) new
    (subst (λ (file : NewFile). CreateLeaves file.name file.bytes (with_new_files c.args.change.now.files old) new) c.pending.ensures
    (subst (λ (files : List NewFile). CreateLeaves c.pending.result.now.name c.pending.result.now.bytes (with_new_files files old) new) c.files.ensures left))))
    c.in-Err-put_file.ensures.left
