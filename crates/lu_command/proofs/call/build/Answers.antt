use Rattle.lu_dir.specs.Faults.{Rose}
use Rattle.lu_changes.specs.Building.{BuildDue}
use Rattle.lu_outcomes.proofs.AnswerLemmas.{Answers-finished, Answers-ok}
use Rattle.lu_changes.proofs.BuildProper.{build-proper}
use Rattle.lu_command.proofs.call.build.Goals as goal

pub returns-in-Ok-clause-answers : goal.returns-in-Ok-clause-answers
returns-in-Ok-clause-answers g c =
    let files = g.D.Dir.files c.args.dir.now in
    Answers-finished (BuildDue c.args.compound files (g.S.Source.left c.args.src.now)) c.in-Ok.outcome files (g.D.Dir.files c.build_outcome.new.dir) (g.D.Dir.files c.finish.new.dir)
    (g.D.Dir.faults c.args.dir.now) (g.D.Dir.faults c.build_outcome.new.dir) (g.D.Dir.faults c.finish.new.dir) (g.K.Sink.taken c.args.out.now) (g.K.Sink.taken c.finish.new.out) c.finish.result
    c.in-Ok.ensures.due c.in-Ok.ensures.files c.in-Ok.ensures.folder.later c.finish.ensures.answers

pub finish-requires : goal.finish-requires
finish-requires g c =
    let files = g.D.Dir.files c.args.dir.now in
    (build-proper files (g.S.Source.left c.args.src.now) c.args.compound c.in-Ok.outcome c.in-Ok.ensures.due).answer

pub returns-in-Ok-clause-emptied : goal.returns-in-Ok-clause-emptied
returns-in-Ok-clause-emptied g c ok =
    c.in-Ok.ensures.emptied (Answers-ok c.in-Ok.outcome (Rose (g.D.Dir.faults c.build_outcome.new.dir) (g.D.Dir.faults c.finish.new.dir))
    (record { files = g.D.Dir.files c.build_outcome.new.dir; taken = g.K.Sink.taken c.args.out.now }) (record { files = g.D.Dir.files c.finish.new.dir; taken = g.K.Sink.taken c.finish.new.out }) c.finish.result c.finish.ensures.answers ok)
