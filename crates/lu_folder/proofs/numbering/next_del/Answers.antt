use Rattle.lu_dir.specs.Loading.{texts}
use Rattle.lu_folder.proofs.DelLemmas.{next_del-none}
use Rattle.lu_folder.proofs.numbering.next_del.Goals as goal

pub returns-in-Some-2 : goal.returns-in-Some-2
returns-in-Some-2 c = next_del-none (texts c.args.names.now) c.args.info.now c.in-Some.generation c.in-Some.is c.if-generation-lt-GENERATION_LIMIT.false
