use Rattle.std.proofs.Common.{◌≡◌, ◌++◌, [], ◌∷◌, ℕ, List, length, rules, sym, subst, ap, ◌∙◌, arith}
use Rattle.std.specs.Vec.Iter.{into_iter_items}
use Rattle.check_index.specs.Segments.{SegmentValue}
use Rattle.lu_listing.specs.Printing.{page, Prints}
use Rattle.lu_listing.specs.Listing.{segment_text}
use Rattle.lu_reads.specs.Showing.{listing_of}
use Rattle.lu_outcomes.proofs.PieceLemmas.{prints-then, prints-none, prints-failed}
use Rattle.lu_reads.proofs.HoldingLemmas.{listing_from, listing-more}
use Rattle.lu_reads.proofs.showing.list_segments.Goals as goal

pub loop-standing-init : goal.loop-standing-init
loop-standing-init g c =
    let same : into_iter_items c.into_iter-standing-iterator.result ≡ c.args.segments.items = search rules in
    record {
      text = [];
      prints = prints-none (page c.args.printer.now (g.K.Sink.taken c.args.out.now) (g.K.Sink.faults c.args.out.now));
      split = ap (listing_from 0) same;
      count = omega (arith, ap (λ (xs : List SegmentValue). length xs) same);
    }

pub returns-then-has_failed : goal.returns-then-has_failed
returns-then-has_failed g c =
    let first = page c.args.printer.now (g.K.Sink.taken c.args.out.now) (g.K.Sink.faults c.args.out.now) in
    let here = page c.loop-standing.printer (g.K.Sink.taken c.loop-standing.out) (g.K.Sink.faults c.loop-standing.out) in
    let so_far = c.loop-standing.invariant in
    let rest = listing_from c.loop-standing.place (into_iter_items c.loop-standing.standing-iterator) in
    subst (λ (text : List ℕ). Prints first here text) so_far.split
    (prints-then first here here so_far.text rest so_far.prints (prints-failed here rest (sym c.has_failed.ensures.failed ∙ c.if-has_failed.true)))

pub returns-in_default : goal.returns-in_default
returns-in_default g c =
    let taken = g.K.Sink.taken c.loop-standing.out in
    let faults = g.K.Sink.faults c.loop-standing.out in
    let first = page c.args.printer.now (g.K.Sink.taken c.args.out.now) (g.K.Sink.faults c.args.out.now) in
    let last = page c.give_up.new.self taken faults in
    let so_far = c.loop-standing.invariant in
    let rest = listing_from c.loop-standing.place (into_iter_items c.loop-standing.standing-iterator) in
    subst (λ (text : List ℕ). Prints first last text) so_far.split
    (prints-then first (page c.loop-standing.printer taken faults) last so_far.text rest so_far.prints (c.give_up.ensures.printed taken faults rest))

pub loop-standing-preserved : goal.loop-standing-preserved
loop-standing-preserved g c =
    let place = c.loop-standing.place in
    let first = page c.args.printer.now (g.K.Sink.taken c.args.out.now) (g.K.Sink.faults c.args.out.now) in
    let here = page c.loop-standing.printer (g.K.Sink.taken c.loop-standing.out) (g.K.Sink.faults c.loop-standing.out) in
    let next = page c.segment_text.new.printer (g.K.Sink.taken c.segment_text.new.out) (g.K.Sink.faults c.segment_text.new.out) in
    let so_far = c.loop-standing.invariant in
    let left = into_iter_items c.loop-standing.standing-iterator in
    let rest = into_iter_items c.next.new.self in
    let taken : left ≡ c.in-Some.standing ∷ rest = c.in-Some.ensures.steps.0 in
    let split : left ≡ c.in-Ok.reader ∷ rest = taken ∙ ap (λ (x : SegmentValue). x ∷ rest) (sym c.in-Ok.ensures) in
    let text = segment_text place c.in-Ok.reader.index in
    record {
      text = so_far.text ++ text;
      prints = prints-then first here next so_far.text text so_far.prints c.segment_text.ensures;
      split = listing-more place so_far.text (listing_of c.args.segments.items) c.in-Ok.reader rest (ap (λ (xs : List SegmentValue). so_far.text ++ listing_from place xs) (sym split) ∙ so_far.split);
      count = omega (arith, so_far.count, ap (λ (xs : List SegmentValue). length xs) taken);
    }
