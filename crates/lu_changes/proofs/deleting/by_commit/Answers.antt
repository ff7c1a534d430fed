use Rattle.std.proofs.Common.{sym}
use Rattle.lu_dir.specs.Loading.{texts}
use Rattle.lu_folder.proofs.FreshLemmas.{generation-valid}
use Rattle.lu_changes.proofs.deleting.by_commit.Goals as goal

pub by_version-requires : goal.by_version-requires
by_version-requires g c = generation-valid (texts c.args.names.now) c.in-Some.generation (sym c.in-Some.ensures)
