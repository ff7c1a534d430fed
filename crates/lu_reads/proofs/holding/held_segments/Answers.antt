use Rattle.std.proofs.Common.{◌≡◌, ◌++◌, [], ◌∷◌, List, Option, Some, None, Result, drop, refl, subst, sym, ◌∙◌, append-nil, arith}
use Rattle.std.specs.Prelude.{MatchResult}
use Rattle.std.proofs.lemmas.List.{drop_all}
use Rattle.lu_dir.specs.Files.{Files}
use Rattle.lu_types.specs.declared.kind.FileKind.{FileKind}
use Rattle.segment_infos.specs.declared.infos.SegInfo.{SegInfo}
use Rattle.lu_reads.specs.declared.holding.Held.{Held}
use Rattle.lu_reads.specs.Holding.{IsHeldOf, IsTooLarge, AreHeldOf}
use Rattle.lu_reads.proofs.SegmentLemmas.{drop-place}
use Rattle.lu_reads.proofs.HoldingLemmas.{held-more, held-large}
use Rattle.lu_reads.proofs.holding.held_segments.Goals as goal

pub loop-place-preserved : goal.loop-place-preserved
loop-place-preserved g c =
    let files = g.D.Dir.files c.args.dir.now in
    let place = c.loop-place.place in
    let line = c.index-segments-place.result in
    let held = c.in-Ok-Ok.segment in
    let items = c.loop-place.held.items in
    let split = drop-place c.args.segments.now place line (omega (arith, c.loop-place-test.true)) c.index-segments-place.is in
    let found = subst (λ (f : Result Held FileKind). MatchResult f (λ h. IsHeldOf (g.D.Dir.files c.loop-place.dir) line h) (λ kind. IsTooLarge (g.D.Dir.files c.loop-place.dir) line (Some kind))) c.in-Ok-Ok.field-0-is c.in-Ok-Ok.ensures.held in
    let is : IsHeldOf files line held = subst (λ (f : Option Files). IsHeldOf f line held) c.loop-place.invariant.files found in
    record {
      held = λ others kind are. subst (λ (all : List Held). AreHeldOf files c.args.segments.now (all ++ others) kind) (sym {A = List Held} {a = c.push.new.self.items} {b = items ++ held ∷ []} c.in-Ok.ensures.items)
          (held-more files c.args.segments.now place line _ split items c.loop-place.invariant.held held is others kind are);
      files = c.held_segment.ensures.files ∙ c.loop-place.invariant.files;
      asked = c.held_segment.ensures.asked ∙ c.loop-place.invariant.asked;
      later = omega (arith, c.held_segment.ensures.cause.later, c.loop-place.invariant.later);
    }

pub returns-in-Ok-Err-clause-held : goal.returns-in-Ok-Err-clause-held
returns-in-Ok-Err-clause-held g c =
    let files = g.D.Dir.files c.args.dir.now in
    let place = c.loop-place.place in
    let line = c.index-segments-place.result in
    let split = drop-place c.args.segments.now place line (omega (arith, c.loop-place-test.true)) c.index-segments-place.is in
    let found = subst (λ (f : Result Held FileKind). MatchResult f (λ h. IsHeldOf (g.D.Dir.files c.loop-place.dir) line h) (λ kind. IsTooLarge (g.D.Dir.files c.loop-place.dir) line (Some kind))) c.in-Ok-Err.field-0-is c.in-Ok-Err.ensures.held in
    held-large files c.args.segments.now place line _ split c.loop-place.held.items c.loop-place.invariant.held c.in-Ok-Err.kind
    (subst (λ (f : Option Files). IsTooLarge f line (Some c.in-Ok-Err.kind)) c.loop-place.invariant.files found)

pub returns-clause-held : goal.returns-clause-held
returns-clause-held g c =
    let files = g.D.Dir.files c.args.dir.now in
    let segments = c.args.segments.now in
    let none : drop c.loop-place.place segments ≡ [] = drop_all c.loop-place.place segments (omega (arith, c.loop-place-test.false)) in
    subst (λ (all : List Held). AreHeldOf files segments all None) (append-nil c.loop-place.held.items)
    (c.loop-place.invariant.held [] None (subst (λ (lines : List SegInfo). AreHeldOf files lines [] None) (sym none) refl))
