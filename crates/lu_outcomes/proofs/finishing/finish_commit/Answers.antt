use Rattle.std.proofs.Common.{◌++◌, ℕ, List, refl, sym, subst}
use Rattle.lu_dir.specs.Faults.{Rose}
use Rattle.lu_dir.specs.Files.{Leaves}
use Rattle.lu_folder.specs.Changes.{IsMade}
use Rattle.lu_outcomes.specs.declared.status.Status.TheVariants.{LeftBehind}
use Rattle.lu_outcomes.specs.declared.outcome.Effect.{Effect}
use Rattle.lu_outcomes.specs.Effects.{IsMadeEffect, IsStoppedEffect}
use Rattle.lu_outcomes.specs.Telling.{Tells}
use Rattle.lu_outcomes.specs.Texts.{left_behind_text}
use Rattle.lu_outcomes.specs.Answers.{done, behind, stopped, removing_ended}
use Rattle.lu_outcomes.proofs.AnswerLemmas.{Answers-told, IsDone-commit, IsGivenUp-failed, ok-none, ok-failed, ok-on}
use Rattle.lu_outcomes.proofs.finishing.finish_commit.Goals as goal

pub returns-in-Ok-None-clause-answers : goal.returns-in-Ok-None-clause-answers
returns-in-Ok-None-clause-answers g c =
    let files = g.D.Dir.files c.args.dir.now in
    Answers-told c.args.outcome.now (Rose (g.D.Dir.faults c.args.dir.now) (g.D.Dir.faults c.commit.new.dir)) (record { files = files; taken = g.K.Sink.taken c.args.out.now })
    (record { files = g.D.Dir.files c.commit.new.dir; taken = g.K.Sink.taken c.tell.new.out }) c.args.outcome.now.status c.args.outcome.now.text c.tell.result
    (done refl refl (IsDone-commit c.args.outcome.now c.args.change.now files (g.D.Dir.files c.commit.new.dir) c.requires.effect
    (c.commit.ensures.made (ok-none c.commit.result c.in-Ok-None.field-0 c.in-Ok-None.is c.in-Ok-None.field-0-is))))
    (subst (λ (text : List ℕ). Tells c.args.outcome.now.status text (g.K.Sink.taken c.args.out.now) (g.K.Sink.taken c.tell.new.out) c.tell.result) c.as_slice.ensures c.tell.ensures.tells)

pub returns-in-Ok-Some-Failed-clause-answers : goal.returns-in-Ok-Some-Failed-clause-answers
returns-in-Ok-Some-Failed-clause-answers g c =
    let files = g.D.Dir.files c.args.dir.now in
    Answers-told c.args.outcome.now (Rose (g.D.Dir.faults c.args.dir.now) (g.D.Dir.faults c.commit.new.dir)) (record { files = files; taken = g.K.Sink.taken c.args.out.now })
    (record { files = g.D.Dir.files c.commit.new.dir; taken = g.K.Sink.taken c.tell_left_behind.new.out }) LeftBehind (c.args.outcome.now.text ++ left_behind_text) c.tell_left_behind.result
    (behind refl refl
    (subst (λ (effect : Effect). IsMadeEffect effect files (g.D.Dir.files c.commit.new.dir)) (sym c.requires.effect)
    (ok-on c.commit.result c.in-Ok-Some-Failed.field-0 (Leaves (IsMade c.args.change.now) files (g.D.Dir.files c.commit.new.dir)) c.in-Ok-Some-Failed.is c.commit.ensures.behind))
    (c.commit.ensures.cause.rose (ok-failed c.commit.result c.in-Ok-Some-Failed.field-0 c.in-Ok-Some-Failed.field-0-0 c.in-Ok-Some-Failed.is c.in-Ok-Some-Failed.field-0-is c.in-Ok-Some-Failed.field-0-0-is)))
    (subst (λ (text : List ℕ). Tells LeftBehind (text ++ left_behind_text) (g.K.Sink.taken c.args.out.now) (g.K.Sink.taken c.tell_left_behind.new.out) c.tell_left_behind.result) c.as_slice-in-Ok-Some-Failed.ensures c.tell_left_behind.ensures.tells)

pub returns-in-Ok-Some-OutOfMemory-clause-answers : goal.returns-in-Ok-Some-OutOfMemory-clause-answers
returns-in-Ok-Some-OutOfMemory-clause-answers g c =
    let files = g.D.Dir.files c.args.dir.now in
    removing_ended c.args.outcome.now refl
    (subst (λ (effect : Effect). IsMadeEffect effect files (g.D.Dir.files c.commit.new.dir)) (sym c.requires.effect)
    (ok-on c.commit.result c.in-Ok-Some-OutOfMemory.field-0 (Leaves (IsMade c.args.change.now) files (g.D.Dir.files c.commit.new.dir)) c.in-Ok-Some-OutOfMemory.is c.commit.ensures.behind))
    refl refl

pub returns-in-Err-clause-answers : goal.returns-in-Err-clause-answers
returns-in-Err-clause-answers g c =
    let files = g.D.Dir.files c.args.dir.now in
    stopped c.args.outcome.now refl
    (subst (λ (effect : Effect). IsStoppedEffect effect files (g.D.Dir.files c.commit.new.dir)) (sym c.requires.effect) c.in-Err.ensures.stopped)
    (IsGivenUp-failed c.in-Err.fail c.given_up.result c.given_up.ensures) refl
