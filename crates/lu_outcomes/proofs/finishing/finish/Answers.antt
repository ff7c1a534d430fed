use Rattle.std.proofs.Common.{ℕ, List, refl, subst}
use Rattle.lu_dir.specs.Faults.{Rose}
use Rattle.lu_outcomes.specs.Answers.{done}
use Rattle.lu_outcomes.specs.Telling.{Tells}
use Rattle.lu_outcomes.proofs.AnswerLemmas.{Answers-told, IsDone-idle}
use Rattle.lu_outcomes.proofs.finishing.finish.Goals as goal

pub returns-in-Nothing-clause-answers : goal.returns-in-Nothing-clause-answers
returns-in-Nothing-clause-answers g c =
    let files = g.D.Dir.files c.args.dir.now in
    Answers-told c.args.outcome.now (Rose (g.D.Dir.faults c.args.dir.now) (g.D.Dir.faults c.args.dir.now)) (record { files = files; taken = g.K.Sink.taken c.args.out.now }) (record { files = files; taken = g.K.Sink.taken c.tell.new.out })
    c.args.outcome.now.status c.args.outcome.now.text c.tell.result (done refl refl (IsDone-idle c.args.outcome.now files c.in-Nothing.is))
    (subst (λ (text : List ℕ). Tells c.args.outcome.now.status text (g.K.Sink.taken c.args.out.now) (g.K.Sink.taken c.tell.new.out) c.tell.result) c.as_slice.ensures c.tell.ensures.tells)
