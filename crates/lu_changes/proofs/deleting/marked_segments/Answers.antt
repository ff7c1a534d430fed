use Rattle.std.proofs.Common.{◌≡◌, ◌++◌, List, [], ◌∷◌, Option, Some, sym, ap, subst, ◌∙◌, append_assoc, arith}
use Rattle.std.proofs.lemmas.List.{append-nil}
use Rattle.lu_dir.specs.Files.{Files}
use Rattle.lu_dir.specs.Loading.{texts}
use Rattle.check_index.specs.Segments.{SegmentValue}
use Rattle.lu_changes.specs.declared.marking.Marking.{Marking}
use Rattle.lu_reads.specs.Checking.{SegmentSays, SegmentsSay}
use Rattle.lu_changes.specs.Deleting.{marking_of}
use Rattle.lu_changes.specs.Marked.{AreMarked}
use Rattle.lu_reads.specs.Segments.{IsReadAs}
use Rattle.lu_reads.proofs.SegmentLemmas.{drop-place}
use Rattle.lu_reads.proofs.CheckLemmas.{say-here, say-later}
use Rattle.lu_changes.proofs.MarkedStepLemmas.{marked-more, marked-none, marked-unsaid}
use Rattle.lu_reads.proofs.StopLemmas.{stop-wider}
use Rattle.lu_changes.proofs.deleting.marked_segments.Goals as goal

pub returns-in-Err-clause-said : goal.returns-in-Err-clause-said
returns-in-Err-clause-said g c =
    let files = g.D.Dir.files c.args.dir.now in
    let generation = c.args.deletion.now.chosen.generation in
    let place = c.loop-place.place in
    let line = c.index-segments-place.result in
    let split = drop-place c.args.segments.now place line (omega (arith, c.loop-place-test.true)) c.index-segments-place.is in
    stop-wider (λ outcome. SegmentSays (g.D.Dir.files c.loop-place.dir) generation place line (Some outcome)) (λ outcome. SegmentsSay files generation 0 c.args.segments.now (Some outcome))
    (λ outcome says. c.loop-place.invariant.says (Some outcome) (say-here files generation c.args.segments.now place line _ split outcome
    (subst (λ (f : Option Files). SegmentSays f generation place line (Some outcome)) c.loop-place.invariant.files says)))
    c.in-Err.stop c.in-Err.ensures.said

pub loop-place-preserved : goal.loop-place-preserved
loop-place-preserved g c =
    let files = g.D.Dir.files c.args.dir.now in
    let names = texts c.args.deletion.now.names.now in
    let field = c.args.deletion.now.target.field.now in
    let text = c.args.deletion.now.target.text.now in
    let segments = c.args.segments.now in
    let generation = c.args.deletion.now.chosen.generation in
    let place = c.loop-place.place in
    let line = c.index-segments-place.result in
    let marking = c.in-Ok.marking in
    let split = drop-place segments place line (omega (arith, c.loop-place-test.true)) c.index-segments-place.is in
    let marked : (x : SegmentValue) × IsReadAs files line x × (marking ≡ marking_of names field text line x.index) =
    subst (λ (f : Option Files). (x : SegmentValue) × IsReadAs f line x × (marking ≡ marking_of names field text line x.index)) c.loop-place.invariant.files c.in-Ok.ensures.marked in
    record {
      marked = λ rest later.
          subst (λ (ms : List Marking). AreMarked files names field text segments ms)
          (sym (append_assoc c.loop-place.markings.items (marking ∷ []) rest) ∙ ap (λ (ms : List Marking). ms ++ rest) (sym c.in-Ok-push.ensures.items))
          (c.loop-place.invariant.marked (marking ∷ rest) (marked-more files names field text segments place line marking rest split marked later));
      says = λ said later. c.loop-place.invariant.says said (say-later files generation segments place line _ split said (marked-unsaid files generation place line marked.0 marked.1) later);
      files = c.in-Ok.ensures.files ∙ c.loop-place.invariant.files;
      asked = c.in-Ok.ensures.asked ∙ c.loop-place.invariant.asked;
      later = omega (arith, c.in-Ok.ensures.cause.later, c.loop-place.invariant.later);
    }

pub returns-clause-marked : goal.returns-clause-marked
returns-clause-marked g c =
    let files = g.D.Dir.files c.args.dir.now in
    let names = texts c.args.deletion.now.names.now in
    let field = c.args.deletion.now.target.field.now in
    let text = c.args.deletion.now.target.text.now in
    subst (λ (ms : List Marking). AreMarked files names field text c.args.segments.now ms) (append-nil c.loop-place.markings.items)
    (c.loop-place.invariant.marked [] (marked-none files names field text c.loop-place.place c.args.segments.now (omega (arith, c.loop-place-test.false))))
