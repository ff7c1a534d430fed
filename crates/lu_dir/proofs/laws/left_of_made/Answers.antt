use Rattle.lu_dir.proofs.TwoChanges.{CreateLeaves-with_file, PatchLeaves-with_file, RemoveLeaves-with_file}
use Rattle.lu_dir.proofs.laws.left_of_made.Goals as goal

pub returns-clause-create : goal.returns-clause-create
returns-clause-create c = CreateLeaves-with_file

pub returns-clause-patch : goal.returns-clause-patch
returns-clause-patch c = PatchLeaves-with_file

pub returns-clause-remove : goal.returns-clause-remove
returns-clause-remove c = RemoveLeaves-with_file
