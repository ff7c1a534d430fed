use Rattle.std.proofs.Common.{◌≤◌, Option, Result, Ok, Err, refl, subst, ap, ◌∙◌, arith}
use Rattle.std.specs.Option.{ForSome}
use Rattle.lu_dir.specs.Files.{Files}
use Rattle.lu_dir.proofs.Causes.{IsCaused-earlier}
use Rattle.lu_folder.specs.Choosing.{AnswersCurrent}
use Rattle.lu_folder.specs.declared.choosing.Chosen.{Chosen}
use Rattle.lu_folder.specs.declared.fault.FolderFault.{FolderFault}
use Rattle.lu_outcomes.specs.Outcomes.{IsAnswer}
use Rattle.lu_reads.specs.Checking.{Refuses}
use Rattle.lu_reads.specs.Segments.{SegmentsGive}
use Rattle.lu_reads.specs.Showing.{Lists, ShowDue}
use Rattle.lu_outcomes.proofs.AnswerLemmas.{Answers-behind}
use Rattle.lu_outcomes.proofs.CauseLemmas.{IsCaused-when}
use Rattle.lu_reads.proofs.CheckLemmas.{refuses-idle}
use Rattle.lu_reads.proofs.CurrentLemmas.{CurrentDue-refused, CurrentDue-chosen}
use Rattle.lu_reads.proofs.StopLemmas.{stop-wider, Answers-stopped}
use Rattle.lu_reads.proofs.showing.show.Goals as goal

pub returns-in-Ok-current-clause-answers : goal.returns-in-Ok-current-clause-answers
returns-in-Ok-current-clause-answers g c =
    let files = g.D.Dir.files c.args.dir.now in
    let chosen = c.in-Ok-current.chosen in
    let answer : Result Chosen FolderFault = Ok chosen in
    let answers = subst (λ (f : Option Files). ForSome f (λ told. AnswersCurrent told answer)) c.in-Ok.ensures.files c.in-Ok-current.ensures.told in
    let later : g.D.Dir.faults c.args.dir.now ≤ g.D.Dir.faults c.current.new.dir = omega (arith, c.in-Ok.ensures.cause.later, c.in-Ok-current.ensures.cause.later) in
    Answers-behind (λ f. SegmentsGive f c.chosen.inside.0.0 c.as_slice.result.now Lists) (ShowDue files) files (g.D.Dir.files c.current.new.dir) (g.D.Dir.files c.show_segments.new.dir)
    (g.D.Dir.faults c.args.dir.now) (g.D.Dir.faults c.current.new.dir) (g.D.Dir.faults c.show_segments.new.dir) (g.K.Sink.taken c.args.out.now) (g.K.Sink.taken c.show_segments.new.out) c.show_segments.result
    (λ outcome gives. CurrentDue-chosen Lists files c.chosen.inside.0.0 c.as_slice.result.now _ chosen outcome c.requires answers refl c.as_slice.ensures c.chosen.view_is gives)
    (c.in-Ok-current.ensures.files ∙ c.in-Ok.ensures.files) later c.show_segments.ensures.answers

pub stopped-requires : goal.stopped-requires
stopped-requires g c =
    stop-wider (Refuses c.in-Err-current.fault) (λ outcome. IsAnswer outcome.status) (λ outcome refuses. (refuses-idle c.in-Err-current.fault outcome refuses).answer) c.stopped_by-stop.result c.stopped_by-stop.ensures.said

pub returns-clause-answers : goal.returns-clause-answers
returns-clause-answers g c =
    let files = g.D.Dir.files c.args.dir.now in
    let fault = c.in-Err-current.fault in
    let stop = c.stopped_by-stop.result in
    let answer : Result Chosen FolderFault = Err fault in
    let answers = subst (λ (f : Option Files). ForSome f (λ told. AnswersCurrent told answer)) c.in-Ok.ensures.files c.in-Err-current.ensures.told in
    let later : g.D.Dir.faults c.args.dir.now ≤ g.D.Dir.faults c.current.new.dir = omega (arith, c.in-Ok.ensures.cause.later, c.in-Err-current.ensures.cause.later) in
    let says = stop-wider (Refuses fault) (ShowDue files) (λ outcome refuses. CurrentDue-refused Lists files fault outcome c.requires answers refuses) stop c.stopped_by-stop.ensures.said in
    Answers-stopped (ShowDue files) stop files (g.D.Dir.files c.current.new.dir) (g.D.Dir.files c.stopped.new.dir) (g.D.Dir.faults c.args.dir.now) (g.D.Dir.faults c.current.new.dir) (g.D.Dir.faults c.stopped.new.dir)
    (g.K.Sink.taken c.args.out.now) (g.K.Sink.taken c.stopped.new.out) c.stopped.result says (c.in-Err-current.ensures.files ∙ c.in-Ok.ensures.files) later c.stopped.ensures.answers

pub returns-clause-folder : goal.returns-clause-folder
returns-clause-folder g c =
    c.stopped.ensures.folder (g.D.Dir.faults c.args.dir.now)
    (IsCaused-earlier (g.D.Dir.faults c.args.dir.now) (g.D.Dir.faults c.list.new.self) (g.D.Dir.faults c.current.new.dir) c.in-Ok.ensures.cause.later
    (IsCaused-when (g.D.Dir.faults c.list.new.self) (g.D.Dir.faults c.current.new.dir) c.in-Err-current.ensures.cause (λ is. ap (λ (f : FolderFault). Err f) (c.stopped_by-stop.ensures.failed is))))
