use Rattle.std.proofs.Common.{ap, ◌∙◌}
use Rattle.lu_dir.specs.Loading.{Loading, found_at, texts}
use Rattle.lu_dir.proofs.Named.{found_at-only}
use Rattle.lu_dir.proofs.loading.Loaded.get.Goals as goal

pub returns : goal.returns
returns c =
    c.get.ensures
    ∙ found_at-only (texts c.self.inside.names.items) c.self.inside.files c.args.name.now c.self.invariant
    ∙ ap (λ (loaded : Loading). found_at loaded.names loaded.found c.args.name.now) c.self.view_is
