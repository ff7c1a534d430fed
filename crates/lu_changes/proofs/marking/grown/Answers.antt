use Rattle.std.proofs.Common.{sym}
use Rattle.lu_dir.specs.Loading.{texts}
use Rattle.lu_folder.proofs.FreshLemmas.{del-valid}
use Rattle.lu_changes.proofs.marking.grown.Goals as goal

pub del_file-requires-clause-generation : goal.del_file-requires-clause-generation
del_file-requires-clause-generation c = del-valid (texts c.args.names.now) c.args.info.now c.in-Some.generation (sym c.in-Some.ensures)
