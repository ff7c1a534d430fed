use Rattle.lu_folder.proofs.FreshLemmas.{del-valid, del-later, del-unlisted}
use Rattle.lu_folder.proofs.laws.drawn_del_is_new.Goals as goal

pub returns-clause-valid : goal.returns-clause-valid
returns-clause-valid c = del-valid

pub returns-clause-later : goal.returns-clause-later
returns-clause-later c = del-later

pub returns-clause-unlisted : goal.returns-clause-unlisted
returns-clause-unlisted c = del-unlisted
