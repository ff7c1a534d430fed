use Rattle.std.proofs.Common.{subst}
use Rattle.segment_infos.specs.Values.{IsCommit}
use Rattle.lu_folder.specs.ChangeValues.{ChangeValue}
use Rattle.lu_folder.proofs.change.Change.hold_commit.Goals as goal

pub returns-clause-commit : goal.returns-clause-commit
returns-clause-commit c = subst (λ (v : ChangeValue). IsCommit v.commit) c.self.view_is c.self.invariant.4
