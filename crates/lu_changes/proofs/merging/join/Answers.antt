use Rattle.std.proofs.Common.{◌≡◌, ◌+◌, ◌++◌, [], ◌∷◌, List, length, rules, sym, ap, ◌∙◌, append-nil, arith}
use Rattle.std.specs.Prelude.{flat_map}
use Rattle.std.specs.Vec.Iter.{into_iter_items}
use Rattle.std.proofs.lemmas.List.{length-append}
use Rattle.lu_model.specs.Contents.{live}
use Rattle.check_index.specs.Segments.{SegmentValue}
use Rattle.seg_merger.specs.Merged.{indexes_of}
use Rattle.lu_reads.proofs.HoldingLemmas.{none-left}
use Rattle.lu_changes.proofs.MergeLiveLemmas.{live-more}
use Rattle.lu_changes.proofs.MergeStepLemmas.{joined-more}
use Rattle.lu_changes.proofs.merging.join.Goals as goal

pub loop-standing-init : goal.loop-standing-init
loop-standing-init c =
    let same : into_iter_items c.into_iter-standing-iterator.result ≡ c.args.segments.items = search rules in
    record {
      all = ap (λ (xs : List SegmentValue). xs ++ into_iter_items c.into_iter-standing-iterator.result) c.new-sources.ensures ∙ same;
      counted = ap (λ (xs : List SegmentValue). length (flat_map live (indexes_of xs))) (sym c.new-sources.ensures);
      left = c.into_iter-standing-iterator.ensures.into_iter_gives.1 ∙ c.args.segments.ok.0 ∙ ap (λ (xs : List SegmentValue). length xs) (sym same);
      few = omega (arith);
    }

pub loop-standing-preserved : goal.loop-standing-preserved
loop-standing-preserved c =
    let so_far = c.loop-standing.invariant in
    let sources = c.loop-standing.sources in
    let reader = c.in-Ok.reader in
    let left = into_iter_items c.loop-standing.standing-iterator in
    let rest = into_iter_items c.next.new.self in
    let taken : left ≡ c.in-Some.standing ∷ rest = c.in-Some.ensures.steps.0 in
    let pushed = c.in-Ok-push.ensures.ok in
    record {
      all = joined-more c.args.segments.items left rest sources c.push.new.self c.in-Some.standing reader taken c.in-Ok.ensures pushed so_far.all;
      counted = omega (arith, so_far.counted, c.live_documents-count.ensures.live, live-more sources reader, ap (λ (xs : List SegmentValue). length (flat_map live (indexes_of xs))) pushed);
      left = omega (arith, so_far.left, c.in-Some.ensures.steps.1, ap (λ (xs : List SegmentValue). length xs) taken);
      few = omega (arith, so_far.few, c.live_documents-count.ensures.few, ap (λ (xs : List SegmentValue). length xs) pushed, length-append sources (reader ∷ []));
    }

pub returns : goal.returns
returns c =
    let none = none-left (into_iter_items c.loop-standing.standing-iterator) (omega (arith, c.loop-standing.invariant.left, c.in-None.ensures.steps.0)) in
    sym (append-nil c.loop-standing.sources) ∙ ap (λ (xs : List SegmentValue). c.loop-standing.sources ++ xs) (sym none) ∙ c.loop-standing.invariant.all
