use Rattle.lu_changes.specs.Deleting.{DeleteDue}
use Rattle.lu_outcomes.proofs.AnswerLemmas.{Answers-finished}
use Rattle.lu_changes.proofs.DeleteProper.{delete-proper}
use Rattle.lu_command.proofs.call.delete.Goals as goal

pub returns-in-Ok-clause-answers : goal.returns-in-Ok-clause-answers
returns-in-Ok-clause-answers g c =
    let files = g.D.Dir.files c.args.dir.now in
    Answers-finished (DeleteDue c.args.target.field.now c.args.target.text.now files) c.in-Ok.outcome files (g.D.Dir.files c.delete_outcome.new.dir) (g.D.Dir.files c.finish.new.dir)
    (g.D.Dir.faults c.args.dir.now) (g.D.Dir.faults c.delete_outcome.new.dir) (g.D.Dir.faults c.finish.new.dir) (g.K.Sink.taken c.args.out.now) (g.K.Sink.taken c.finish.new.out) c.finish.result
    c.in-Ok.ensures.due c.in-Ok.ensures.files c.in-Ok.ensures.cause.later c.finish.ensures.answers

pub finish-requires : goal.finish-requires
finish-requires g c =
    let files = g.D.Dir.files c.args.dir.now in
    (delete-proper files c.args.target.field.now c.args.target.text.now c.in-Ok.outcome c.in-Ok.ensures.due).answer
