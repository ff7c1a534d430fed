use Rattle.lu_command.proofs.FewLemmas.{more-not_lone}
use Rattle.lu_command.proofs.words.lone_argument.Goals as goal

pub returns-in-More : goal.returns-in-More
returns-in-More c = more-not_lone _ _ c.in-More.ensures
