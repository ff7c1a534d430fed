use Rattle.segment_infos.proofs.OnlyFiles.{commit-only}
use Rattle.segment_infos.proofs.laws.only_written_is_read.Goals as goal

pub returns-clause-written : goal.returns-clause-written
returns-clause-written c = λ bytes v h. (commit-only bytes v h).1

pub returns-clause-commit : goal.returns-clause-commit
returns-clause-commit c = λ bytes v h. (commit-only bytes v h).0
