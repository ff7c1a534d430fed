use Rattle.std.proofs.Common.{◌≡◌, ℕ, List, refl, inl, subst}
use Rattle.std.proofs.Common.{inr}
use Rattle.lu_dir.specs.Faults.{Rose}
use Rattle.lu_dir.specs.Loading.{texts}
use Rattle.lu_outcomes.specs.declared.status.Status.TheVariants.{Usage}
use Rattle.lu_command.specs.Meanings.{meaning_of}
use Rattle.lu_outcomes.specs.Outcomes.{usage_outcome}
use Rattle.lu_command.specs.Due.{MeaningDue, Due}
use Rattle.lu_outcomes.specs.Telling.{Tells}
use Rattle.lu_outcomes.specs.Answers.{done}
use Rattle.lu_outcomes.proofs.AnswerLemmas.{IsDone-idle, Answers-told, Answers-wider}
use Rattle.lu_command.proofs.DueLemmas.{Due-proper, Completes-answers}
use Rattle.lu_outcomes.proofs.SafetyLemmas.{Leaves-answers}
use Rattle.lu_command.proofs.call.run.Goals as goal

pub returns-in-Some-clause-answers : goal.returns-in-Some-clause-answers
returns-in-Some-clause-answers g c =
    let files = g.D.Dir.files c.args.dir.now in
    let input = g.S.Source.left c.args.src.now in
    let rose = Rose (g.D.Dir.faults c.args.dir.now) (g.D.Dir.faults c.obey.new.dir) in
    Answers-wider (MeaningDue (meaning_of c.in-Some.command) files input) (Due (texts c.args.words.now) files input) (λ outcome due. inr (meaning_of c.in-Some.command, c.in-Some.ensures, due)) rose rose (λ is. is)
    (record { files = files; taken = g.K.Sink.taken c.args.out.now }) (record { files = g.D.Dir.files c.obey.new.dir; taken = g.K.Sink.taken c.obey.new.out }) c.obey.result c.obey.ensures.answers

pub returns-in-None-clause-answers : goal.returns-in-None-clause-answers
returns-in-None-clause-answers g c =
    let files = g.D.Dir.files c.args.dir.now in
    let input = g.S.Source.left c.args.src.now in
    let rose = Rose (g.D.Dir.faults c.args.dir.now) (g.D.Dir.faults c.args.dir.now) in
    let before = g.K.Sink.taken c.args.out.now in
    let after = g.K.Sink.taken c.tell.new.out in
    Answers-wider (λ due. due ≡ usage_outcome) (Due (texts c.args.words.now) files input) (λ outcome is. inl (c.in-None.ensures, is)) rose rose (λ is. is)
    (record { files = files; taken = before }) (record { files = files; taken = after }) c.tell.result
    (Answers-told usage_outcome rose (record { files = files; taken = before }) (record { files = files; taken = after }) Usage usage_outcome.text c.tell.result (done refl refl (IsDone-idle usage_outcome files refl))
    (subst (λ (text : List ℕ). Tells Usage text before after c.tell.result) c.as_bytes.ensures.value c.tell.ensures.tells))

pub returns-in-Some-clause-safe : goal.returns-in-Some-clause-safe
returns-in-Some-clause-safe g c =
    let files = g.D.Dir.files c.args.dir.now in
    let input = g.S.Source.left c.args.src.now in
    Leaves-answers (Due (texts c.args.words.now) files input) (Rose (g.D.Dir.faults c.args.dir.now) (g.D.Dir.faults c.obey.new.dir)) files (g.D.Dir.files c.obey.new.dir) (λ outcome. Due-proper files input outcome (texts c.args.words.now))
    (g.K.Sink.taken c.args.out.now) (g.K.Sink.taken c.obey.new.out) c.obey.result (returns-in-Some-clause-answers g c)

pub returns-in-None-clause-safe : goal.returns-in-None-clause-safe
returns-in-None-clause-safe g c =
    let files = g.D.Dir.files c.args.dir.now in
    let input = g.S.Source.left c.args.src.now in
    Leaves-answers (Due (texts c.args.words.now) files input) (Rose (g.D.Dir.faults c.args.dir.now) (g.D.Dir.faults c.args.dir.now)) files files (λ outcome. Due-proper files input outcome (texts c.args.words.now))
    (g.K.Sink.taken c.args.out.now) (g.K.Sink.taken c.tell.new.out) c.tell.result (returns-in-None-clause-answers g c)

pub returns-in-Some-clause-complete : goal.returns-in-Some-clause-complete
returns-in-Some-clause-complete g c =
    Completes-answers (texts c.args.words.now) (g.D.Dir.files c.args.dir.now) (g.S.Source.left c.args.src.now) (Rose (g.D.Dir.faults c.args.dir.now) (g.D.Dir.faults c.obey.new.dir)) (record { files = g.D.Dir.files c.args.dir.now; taken = g.K.Sink.taken c.args.out.now })
    (record { files = g.D.Dir.files c.obey.new.dir; taken = g.K.Sink.taken c.obey.new.out }) c.obey.result (returns-in-Some-clause-answers g c)
