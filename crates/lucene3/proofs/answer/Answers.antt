use Rattle.std.proofs.Common.{None}
use Rattle.lu_dir.specs.Loading.{texts}
use Rattle.lu_command.specs.Due.{Due}
use Rattle.lu_outcomes.proofs.AnswerLemmas.{IsAnswered-answers}
use Rattle.lucene3.proofs.answer.Goals as goal

pub returns : goal.returns
returns g c = IsAnswered-answers (Due (texts c.args.words.now) None None) _ _ _ c.run.result c.run.ensures.answers
