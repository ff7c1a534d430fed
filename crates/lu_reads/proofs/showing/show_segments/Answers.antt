use Rattle.std.proofs.Common.{Some, Err, refl, ap, arith, inl, inr}
use Rattle.lu_dir.specs.Faults.{Rose}
use Rattle.lu_reads.specs.declared.stopping.Stop.{Stop}
use Rattle.lu_outcomes.specs.Outcomes.{IsAnswer}
use Rattle.lu_reads.specs.Checking.{SegmentsSay}
use Rattle.lu_reads.specs.Segments.{SegmentsGive}
use Rattle.lu_reads.specs.Showing.{listing_of, Lists}
use Rattle.lu_outcomes.proofs.AnswerLemmas.{Answers-printed}
use Rattle.lu_reads.proofs.CheckLemmas.{segments-idle}
use Rattle.lu_reads.proofs.HoldingLemmas.{held-each, held-count, read-count}
use Rattle.lu_reads.proofs.StopLemmas.{stop-wider, Answers-stopped}
use Rattle.lu_reads.proofs.showing.show_segments.Goals as goal

pub standing_segments-requires-clause-held : goal.standing_segments-requires-clause-held
standing_segments-requires-clause-held g c =
    held-each (g.D.Dir.files c.args.dir.now) c.args.segments.now c.in-Ok.held.held.items c.in-Ok.held.too_large c.in-Ok.ensures.held

pub standing_segments-requires-clause-count : goal.standing_segments-requires-clause-count
standing_segments-requires-clause-count g c =
    omega (arith, held-count (g.D.Dir.files c.args.dir.now) c.args.segments.now c.in-Ok.held.held.items c.in-Ok.held.too_large c.in-Ok.ensures.held, c.requires.count)

pub list-requires : goal.list-requires
list-requires g c =
    let files = g.D.Dir.files c.args.dir.now in
    omega (arith, read-count files c.args.segments.now c.in-Ok-standing_segments.all.items (c.in-Ok-standing_segments.ensures.stand files c.args.segments.now c.in-Ok.ensures.held), c.requires.count)

pub returns-in-Ok-standing_segments-clause-answers : goal.returns-in-Ok-standing_segments-clause-answers
returns-in-Ok-standing_segments-clause-answers g c =
    let files = g.D.Dir.files c.args.dir.now in
    let all = c.in-Ok-standing_segments.all.items in
    let stand = c.in-Ok-standing_segments.ensures.stand files c.args.segments.now c.in-Ok.ensures.held in
    Answers-printed (SegmentsGive files c.args.generation c.args.segments.now Lists) (Rose (g.D.Dir.faults c.args.dir.now) (g.D.Dir.faults c.held_segments.new.dir)) (listing_of all)
    files (g.D.Dir.files c.held_segments.new.dir) (g.K.Sink.taken c.args.out.now) (g.K.Sink.taken c.list.new.out) c.list.result (inr (all, stand, refl)) c.in-Ok.ensures.files c.list.ensures.tells

pub stopped-requires : goal.stopped-requires
stopped-requires g c =
    let files = g.D.Dir.files c.args.dir.now in
    stop-wider (λ outcome. SegmentsSay files c.args.generation 0 c.args.segments.now (Some outcome)) (λ outcome. IsAnswer outcome.status)
    (λ outcome says. (segments-idle files c.args.generation 0 c.args.segments.now (Some outcome) says).answer) c.in-Err-standing_segments.stop (c.in-Err-standing_segments.ensures.said files c.args.segments.now c.in-Ok.ensures.held)

pub returns-clause-answers : goal.returns-clause-answers
returns-clause-answers g c =
    let files = g.D.Dir.files c.args.dir.now in
    let IsDue = SegmentsGive files c.args.generation c.args.segments.now Lists in
    let says = stop-wider (λ outcome. SegmentsSay files c.args.generation 0 c.args.segments.now (Some outcome)) IsDue (λ outcome said. inl said) c.in-Err-standing_segments.stop (c.in-Err-standing_segments.ensures.said files c.args.segments.now c.in-Ok.ensures.held) in
    Answers-stopped IsDue c.in-Err-standing_segments.stop files (g.D.Dir.files c.held_segments.new.dir) (g.D.Dir.files c.stopped.new.dir) (g.D.Dir.faults c.args.dir.now) (g.D.Dir.faults c.held_segments.new.dir) (g.D.Dir.faults c.stopped.new.dir)
    (g.K.Sink.taken c.args.out.now) (g.K.Sink.taken c.stopped.new.out) c.stopped.result says c.in-Ok.ensures.files c.in-Ok.ensures.cause.later c.stopped.ensures.answers

pub returns-clause-folder : goal.returns-clause-folder
returns-clause-folder g c =
    c.stopped.ensures.folder (g.D.Dir.faults c.args.dir.now)
    (record { later = c.in-Ok.ensures.cause.later; rose = λ is. absurd (c.in-Err-standing_segments.ensures.failed (ap (λ (stop : Stop). Err stop) is)) })
