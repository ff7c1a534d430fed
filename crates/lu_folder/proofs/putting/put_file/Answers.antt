use Rattle.std.proofs.Common.{◌∙◌, ℕ, List, ap, subst}
use Rattle.std.specs.Option.{option_map}
use Rattle.lu_dir.specs.Files.{with_file, CreateLeaves, Leaves}
use Rattle.lu_dir.proofs.Told.{Leaves-changed, CreateLeaves-whole}
use Rattle.lu_folder.proofs.putting.put_file.Goals as goal

pub returns-in-Err-clause-left : goal.returns-in-Err-clause-left
returns-in-Err-clause-left g c =
    let first = g.D.Dir.files c.args.dir.now in
    let after = g.D.Dir.files c.create.new.self in
    subst (λ (name : List ℕ). Leaves (CreateLeaves name c.args.file.now.bytes) first after) c.as_str.ensures.same
    (subst (λ (bytes : List ℕ). Leaves (CreateLeaves c.as_str.result.now bytes) first after) c.as_slice.ensures c.in-Err.ensures.left)

pub returns-in-Err-sync-clause-left : goal.returns-in-Err-sync-clause-left
returns-in-Err-sync-clause-left g c =
    let first = g.D.Dir.files c.args.dir.now in
    Leaves-changed (with_file c.args.file.now.name c.args.file.now.bytes) (CreateLeaves c.args.file.now.name c.args.file.now.bytes) first (g.D.Dir.files c.sync.new.self)
    (c.in-Err-sync.ensures.files ∙ c.in-Ok.ensures.made
    ∙ ap (λ (name : List ℕ). option_map (with_file name c.as_slice.result.now) first) c.as_str.ensures.same
    ∙ ap (λ (bytes : List ℕ). option_map (with_file c.args.file.now.name bytes) first) c.as_slice.ensures)
    (λ files. CreateLeaves-whole c.args.file.now.name c.args.file.now.bytes files)
