use Rattle.segment_infos.proofs.RemovableNames.{unkept-removable, removable-IsLuceneName}
use Rattle.segment_infos.proofs.laws.removable_is_unkept.Goals as goal

pub returns-clause-unkept : goal.returns-clause-unkept
returns-clause-unkept c = unkept-removable

pub returns-clause-names : goal.returns-clause-names
returns-clause-names c = removable-IsLuceneName
