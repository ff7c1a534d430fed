use Rattle.std.proofs.Common.{Option, Some, None, subst, ◌∙◌, arith}
use Rattle.lu_dir.specs.Files.{Files}
use Rattle.lu_outcomes.specs.declared.outcome.Outcome.{Outcome}
use Rattle.lu_reads.specs.Checking.{SegmentSays}
use Rattle.lu_reads.proofs.SegmentLemmas.{drop-place}
use Rattle.lu_reads.proofs.CheckLemmas.{say-here, say-later}
use Rattle.lu_reads.proofs.checking.segments_say.Goals as goal

pub returns-in-Ok-Some-clause-says : goal.returns-in-Ok-Some-clause-says
returns-in-Ok-Some-clause-says g c =
    let files = g.D.Dir.files c.args.dir.now in
    let place = c.loop-place.place in
    let line = c.index-segments-place.result in
    let split = drop-place c.args.segments.now place line (omega (arith, c.loop-place-test.true)) c.index-segments-place.is in
    c.loop-place.invariant.says (Some c.in-Ok-Some.outcome) (say-here files c.args.generation c.args.segments.now place line _ split c.in-Ok-Some.outcome
    (subst (λ (said : Option Outcome). SegmentSays files c.args.generation place line said) c.in-Ok-Some.field-0-is
    (subst (λ (f : Option Files). SegmentSays f c.args.generation place line c.in-Ok-Some.field-0) c.loop-place.invariant.files c.in-Ok-Some.ensures.says)))

pub loop-place-preserved : goal.loop-place-preserved
loop-place-preserved g c =
    let files = g.D.Dir.files c.args.dir.now in
    let place = c.loop-place.place in
    let line = c.index-segments-place.result in
    let split = drop-place c.args.segments.now place line (omega (arith, c.loop-place-test.true)) c.index-segments-place.is in
    let stands : SegmentSays files c.args.generation place line None =
    subst (λ (said : Option Outcome). SegmentSays files c.args.generation place line said) c.in-Ok-None.field-0-is
    (subst (λ (f : Option Files). SegmentSays f c.args.generation place line c.in-Ok-None.field-0) c.loop-place.invariant.files c.in-Ok-None.ensures.says) in
    record {
      says = λ said later. c.loop-place.invariant.says said (say-later files c.args.generation c.args.segments.now place line _ split said stands later);
      files = c.in-Ok-None.ensures.files ∙ c.loop-place.invariant.files;
      asked = c.in-Ok-None.ensures.asked ∙ c.loop-place.invariant.asked;
      later = omega (arith, c.in-Ok-None.ensures.cause.later, c.loop-place.invariant.later);
    }
