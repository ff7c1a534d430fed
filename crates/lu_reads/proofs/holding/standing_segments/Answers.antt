use Rattle.std.proofs.Common.{◌≡◌, ◌++◌, ◌+◌, [], ◌∷◌, List, Option, Some, drop, All, rules, sym, subst, arith}
use Rattle.std.proofs.lemmas.List.{drop_all}
use Rattle.std.proofs.lemmas.List.Elements.{All-get_or}
use Rattle.lu_types.specs.declared.kind.FileKind.{FileKind}
use Rattle.check_index.specs.Segments.{SegmentValue}
use Rattle.lu_reads.specs.declared.holding.Held.{Held}
use Rattle.lu_outcomes.specs.Outcomes.{too_large_outcome}
use Rattle.lu_reads.specs.Checking.{JudgedSays, SegmentsSay}
use Rattle.lu_reads.specs.Holding.{IsHeld}
use Rattle.lu_reads.proofs.SegmentLemmas.{drop-place}
use Rattle.lu_reads.proofs.HoldingLemmas.{HaveStood, stood-none, stood-more, stood-fault, stood-all, stood-large}
use Rattle.lu_reads.proofs.StopLemmas.{stop-wider}
use Rattle.lu_reads.proofs.holding.standing_segments.Goals as goal

pub loop-place-init : goal.loop-place-init
loop-place-init c files lines are =
    let helds = c.args.segments.now.held.items in
    let kind = c.args.segments.now.too_large in
    subst (λ (xs : List SegmentValue). HaveStood files lines helds kind c.args.generation 0 xs) (sym c.new-all.ensures.items) (stood-none files lines helds kind c.args.generation are)

pub standing_segment-requires : goal.standing_segment-requires
standing_segment-requires c =
    let same : c.as_slice-held.result.now ≡ c.args.segments.now.held.items = search rules in
    let each = subst (λ (helds : List Held). All IsHeld helds) (sym same) c.requires.held in
    let held = c.index-held-place.result in
    subst IsHeld (sym c.index-held-place.is) (All-get_or IsHeld c.as_slice-held.result.now c.loop-place.place held (omega (arith, c.loop-place-test.true)) each)

pub returns-in-Err-clause-said : goal.returns-in-Err-clause-said
returns-in-Err-clause-said c files lines are =
    let same : c.as_slice-held.result.now ≡ c.args.segments.now.held.items = search rules in
    let place = c.loop-place.place in
    let held = c.index-held-place.result in
    let kind = c.args.segments.now.too_large in
    let split = subst (λ (helds : List Held). drop place helds ≡ held ∷ drop (place + 1) helds) same (drop-place c.as_slice-held.result.now place held (omega (arith, c.loop-place-test.true)) c.index-held-place.is) in
    stop-wider (λ outcome. JudgedSays held.files.found c.args.generation place held.line.now (Some outcome)) (λ outcome. SegmentsSay files c.args.generation 0 lines (Some outcome))
    (λ outcome judged. stood-fault files lines c.args.segments.now.held.items kind c.args.generation place c.loop-place.all.items (c.loop-place.invariant files lines are) held split outcome judged)
    c.in-Err.stop c.in-Err.ensures.said

pub loop-place-preserved : goal.loop-place-preserved
loop-place-preserved c files lines are =
    let same : c.as_slice-held.result.now ≡ c.args.segments.now.held.items = search rules in
    let place = c.loop-place.place in
    let held = c.index-held-place.result in
    let kind = c.args.segments.now.too_large in
    let items = c.loop-place.all.items in
    let split = subst (λ (helds : List Held). drop place helds ≡ held ∷ drop (place + 1) helds) same (drop-place c.as_slice-held.result.now place held (omega (arith, c.loop-place-test.true)) c.index-held-place.is) in
    let more = stood-more files lines c.args.segments.now.held.items kind c.args.generation place items (c.loop-place.invariant files lines are) held split c.in-Ok.standing c.in-Ok.ensures.stands in
    subst (λ (xs : List SegmentValue). HaveStood files lines c.args.segments.now.held.items kind c.args.generation (place + 1) xs)
    (sym {A = List SegmentValue} {a = c.push.new.self.items} {b = items ++ c.in-Ok.standing ∷ []} c.in-Ok-push.ensures.items) more

pub returns-in-None-clause-stand : goal.returns-in-None-clause-stand
returns-in-None-clause-stand c files lines are =
    let same : c.as_slice-held.result.now ≡ c.args.segments.now.held.items = search rules in
    let helds = c.args.segments.now.held.items in
    let place = c.loop-place.place in
    let none : drop place helds ≡ [] = subst (λ (hs : List Held). drop place hs ≡ []) same (drop_all place c.as_slice-held.result.now (omega (arith, c.loop-place-test.false))) in
    stood-all files lines helds c.args.generation place c.loop-place.all.items none
    (subst (λ (kind : Option FileKind). HaveStood files lines helds kind c.args.generation place c.loop-place.all.items) c.in-None.is (c.loop-place.invariant files lines are))

pub returns-clause-said : goal.returns-clause-said
returns-clause-said c files lines are =
    let same : c.as_slice-held.result.now ≡ c.args.segments.now.held.items = search rules in
    let helds = c.args.segments.now.held.items in
    let place = c.loop-place.place in
    let none : drop place helds ≡ [] = subst (λ (hs : List Held). drop place hs ≡ []) same (drop_all place c.as_slice-held.result.now (omega (arith, c.loop-place-test.false))) in
    let stood = subst (λ (kind : Option FileKind). HaveStood files lines helds kind c.args.generation place c.loop-place.all.items) c.in-Some.is (c.loop-place.invariant files lines are) in
    stop-wider (λ outcome. outcome ≡ too_large_outcome c.in-Some.kind) (λ outcome. SegmentsSay files c.args.generation 0 lines (Some outcome))
    (λ outcome is. stood-large files lines helds c.in-Some.kind c.args.generation place c.loop-place.all.items outcome none stood is)
    c.stopped_at_large.result c.stopped_at_large.ensures.said
