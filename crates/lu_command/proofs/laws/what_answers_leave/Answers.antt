use Rattle.lu_dir.specs.Faults.{Rose}
use Rattle.lu_command.specs.Due.{Due}
use Rattle.lu_outcomes.proofs.AnswerLemmas.{Answers-files}
use Rattle.lu_outcomes.proofs.PrintsLemmas.{Prints-answers}
use Rattle.lu_command.proofs.DueLemmas.{Due-idle, Due-proper}
use Rattle.lu_command.proofs.laws.what_answers_leave.Goals as goal

pub returns-clause-printed : goal.returns-clause-printed
returns-clause-printed c words files input first last = Prints-answers (Due words files input) (Rose first last) files (λ outcome. Due-proper files input outcome words)

pub returns-clause-files : goal.returns-clause-files
returns-clause-files c words files input first last before after answer none =
    Answers-files (Due words files input) (Rose first last) (λ outcome due. (Due-idle files input outcome words none due).effect) before after answer
