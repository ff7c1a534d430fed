use Rattle.lu_dir.proofs.TwoChanges.{with_file-with_file, with_file-without_file, without_file-with_file, without_file-without_file, with_patch-with_file, with_file-same}
use Rattle.lu_dir.proofs.laws.changed_twice.Goals as goal

pub returns-clause-made_made : goal.returns-clause-made_made
returns-clause-made_made c = with_file-with_file

pub returns-clause-removed_made : goal.returns-clause-removed_made
returns-clause-removed_made c = with_file-without_file

pub returns-clause-made_removed : goal.returns-clause-made_removed
returns-clause-made_removed c = without_file-with_file

pub returns-clause-removed_removed : goal.returns-clause-removed_removed
returns-clause-removed_removed c = without_file-without_file

pub returns-clause-made_patched : goal.returns-clause-made_patched
returns-clause-made_patched c = with_patch-with_file

pub returns-clause-made_as_it_was : goal.returns-clause-made_as_it_was
returns-clause-made_as_it_was c = with_file-same
