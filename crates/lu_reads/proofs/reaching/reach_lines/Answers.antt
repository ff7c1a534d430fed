use Rattle.std.proofs.Common.{Some, Err, refl, ap, arith, inl, inr}
use Rattle.lu_dir.specs.Faults.{Rose}
use Rattle.lu_reads.specs.declared.stopping.Stop.{Stop}
use Rattle.lu_outcomes.specs.Outcomes.{IsAnswer}
use Rattle.lu_reads.specs.Checking.{SegmentsSay}
use Rattle.lu_reads.specs.Segments.{SegmentsGive}
use Rattle.lu_reads.specs.Reaching.{Reaches}
use Rattle.lu_outcomes.proofs.AnswerLemmas.{Answers-printed}
use Rattle.lu_reads.proofs.CheckLemmas.{segments-idle}
use Rattle.lu_reads.proofs.HoldingLemmas.{held-each, held-count, read-count, read-made}
use Rattle.lu_reads.proofs.StopLemmas.{stop-wider, Answers-stopped}
use Rattle.lu_reads.proofs.reaching.reach_lines.Goals as goal

pub standing_segments-requires-clause-held : goal.standing_segments-requires-clause-held
standing_segments-requires-clause-held g c =
    held-each (g.D.Dir.files c.args.dir.now) c.args.lines.segments.now c.in-Ok.held.held.items c.in-Ok.held.too_large c.in-Ok.ensures.held

pub standing_segments-requires-clause-count : goal.standing_segments-requires-clause-count
standing_segments-requires-clause-count g c =
    omega (arith, held-count (g.D.Dir.files c.args.dir.now) c.args.lines.segments.now c.in-Ok.held.held.items c.in-Ok.held.too_large c.in-Ok.ensures.held, c.requires.count)

pub reach-requires-clause-count : goal.reach-requires-clause-count
reach-requires-clause-count g c =
    let files = g.D.Dir.files c.args.dir.now in
    omega (arith, read-count files c.args.lines.segments.now c.in-Ok-standing_segments.all.items (c.in-Ok-standing_segments.ensures.stand files c.args.lines.segments.now c.in-Ok.ensures.held), c.requires.count)

pub reach-requires-clause-stand : goal.reach-requires-clause-stand
reach-requires-clause-stand g c =
    let files = g.D.Dir.files c.args.dir.now in
    read-made files c.args.lines.segments.now c.in-Ok-standing_segments.all.items (c.in-Ok-standing_segments.ensures.stand files c.args.lines.segments.now c.in-Ok.ensures.held)

pub returns-in-Ok-standing_segments-clause-answers : goal.returns-in-Ok-standing_segments-clause-answers
returns-in-Ok-standing_segments-clause-answers g c =
    let files = g.D.Dir.files c.args.dir.now in
    let w = c.args.wanted in
    let Given = Reaches w.field.now w.text.now w.from in
    let all = c.in-Ok-standing_segments.all.items in
    let stand = c.in-Ok-standing_segments.ensures.stand files c.args.lines.segments.now c.in-Ok.ensures.held in
    Answers-printed (SegmentsGive files c.args.lines.generation c.args.lines.segments.now Given) (Rose (g.D.Dir.faults c.args.dir.now) (g.D.Dir.faults c.held_segments.new.dir)) c.reach.ensures.tells.0
    files (g.D.Dir.files c.held_segments.new.dir) (g.K.Sink.taken c.args.out.now) (g.K.Sink.taken c.reach.new.out) c.reach.result (inr (all, stand, (c.reach.ensures.tells.0, c.reach.ensures.tells.1, refl))) c.in-Ok.ensures.files c.reach.ensures.tells.2

pub stopped-requires : goal.stopped-requires
stopped-requires g c =
    let files = g.D.Dir.files c.args.dir.now in
    stop-wider (λ outcome. SegmentsSay files c.args.lines.generation 0 c.args.lines.segments.now (Some outcome)) (λ outcome. IsAnswer outcome.status)
    (λ outcome says. (segments-idle files c.args.lines.generation 0 c.args.lines.segments.now (Some outcome) says).answer) c.in-Err-standing_segments.stop (c.in-Err-standing_segments.ensures.said files c.args.lines.segments.now c.in-Ok.ensures.held)

pub returns-clause-answers : goal.returns-clause-answers
returns-clause-answers g c =
    let files = g.D.Dir.files c.args.dir.now in
    let w = c.args.wanted in
    let Given = Reaches w.field.now w.text.now w.from in
    let IsDue = SegmentsGive files c.args.lines.generation c.args.lines.segments.now Given in
    let says = stop-wider (λ outcome. SegmentsSay files c.args.lines.generation 0 c.args.lines.segments.now (Some outcome)) IsDue (λ outcome said. inl said) c.in-Err-standing_segments.stop (c.in-Err-standing_segments.ensures.said files c.args.lines.segments.now c.in-Ok.ensures.held) in
    Answers-stopped IsDue c.in-Err-standing_segments.stop files (g.D.Dir.files c.held_segments.new.dir) (g.D.Dir.files c.stopped.new.dir) (g.D.Dir.faults c.args.dir.now) (g.D.Dir.faults c.held_segments.new.dir) (g.D.Dir.faults c.stopped.new.dir)
    (g.K.Sink.taken c.args.out.now) (g.K.Sink.taken c.stopped.new.out) c.stopped.result says c.in-Ok.ensures.files c.in-Ok.ensures.cause.later c.stopped.ensures.answers

pub returns-clause-folder : goal.returns-clause-folder
returns-clause-folder g c =
    c.stopped.ensures.folder (g.D.Dir.faults c.args.dir.now)
    (record { later = c.in-Ok.ensures.cause.later; rose = λ is. absurd (c.in-Err-standing_segments.ensures.failed (ap (λ (stop : Stop). Err stop) is)) })
