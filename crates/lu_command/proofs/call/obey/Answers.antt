use Rattle.std.proofs.Common.{Option, subst}
use Rattle.lu_dir.specs.Faults.{Rose}
use Rattle.lu_dir.proofs.Causes.{Rose-earlier}
use Rattle.lu_dir.specs.Files.{Files}
use Rattle.lu_command.specs.Meanings.{meaning_of}
use Rattle.lu_command.specs.Due.{MeaningDue}
use Rattle.lu_outcomes.specs.Answers.{Answers}
use Rattle.lu_outcomes.proofs.AnswerLemmas.{Answers-wider}
use Rattle.lu_command.proofs.call.obey.Goals as goal

pub returns-in-Ok-clause-answers : goal.returns-in-Ok-clause-answers
returns-in-Ok-clause-answers g c =
    let files = g.D.Dir.files c.args.dir.now in
    let input = g.S.Source.left c.args.src.now in
    Answers-wider (MeaningDue (meaning_of c.args.command) files input) (MeaningDue (meaning_of c.args.command) files input) (λ outcome due. due)
    (Rose (g.D.Dir.faults c.enter.new.self) (g.D.Dir.faults c.conclude.new.dir)) (Rose (g.D.Dir.faults c.args.dir.now) (g.D.Dir.faults c.conclude.new.dir))
    (λ rose. Rose-earlier (g.D.Dir.faults c.args.dir.now) (g.D.Dir.faults c.enter.new.self) (g.D.Dir.faults c.conclude.new.dir) c.in-Ok.ensures.cause.later rose)
    (record { files = files; taken = g.K.Sink.taken c.args.out.now }) (record { files = g.D.Dir.files c.conclude.new.dir; taken = g.K.Sink.taken c.conclude.new.out }) c.conclude.result
    (subst (λ (told : Option Files). Answers (MeaningDue (meaning_of c.args.command) told input) (Rose (g.D.Dir.faults c.enter.new.self) (g.D.Dir.faults c.conclude.new.dir))
    (record { files = told; taken = g.K.Sink.taken c.args.out.now }) (record { files = g.D.Dir.files c.conclude.new.dir; taken = g.K.Sink.taken c.conclude.new.out }) c.conclude.result) c.in-Ok.ensures.files c.conclude.ensures.answers)
