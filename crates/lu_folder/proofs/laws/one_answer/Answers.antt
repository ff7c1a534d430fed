use Rattle.lu_folder.proofs.OneAnswer.{current-answer, newest-answer}
use Rattle.lu_folder.proofs.laws.one_answer.Goals as goal

pub returns-clause-current : goal.returns-clause-current
returns-clause-current c = λ files one other made told also first second. current-answer files made one other told also first second

pub returns-clause-newest : goal.returns-clause-newest
returns-clause-newest c = λ files one other made told also first second. newest-answer files made one other told also first second
