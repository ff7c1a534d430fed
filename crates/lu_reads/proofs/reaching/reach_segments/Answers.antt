use Rattle.std.proofs.Common.{◌≡◌, ◌++◌, [], ◌∷◌, List, length, All, rules, sym, subst, ap, ◌∙◌, arith}
use Rattle.std.specs.Vec.Iter.{into_iter_items}
use Rattle.std.proofs.lemmas.List.Elements.{All-tail}
use Rattle.check_index.specs.Segments.{SegmentValue}
use Rattle.lu_listing.specs.Printing.{page}
use Rattle.lu_reads.specs.Holding.{IsMade}
use Rattle.lu_reads.specs.Reaching.{AreReachedTexts}
use Rattle.lu_reads.proofs.HoldingLemmas.{none-left}
use Rattle.lu_outcomes.proofs.PieceLemmas.{prints-then, prints-none, prints-failed}
use Rattle.lu_reads.proofs.ReachedLemmas.{reached-all, LeadsOn, leads-more, leads-end}
use Rattle.lu_reads.proofs.reaching.reach_segments.Goals as goal

pub loop-standing-init : goal.loop-standing-init
loop-standing-init g c =
    let w = c.args.wanted in
    let same : into_iter_items c.into_iter-standing-iterator.result ≡ c.args.segments.items = search rules in
    record {
      lines = [];
      prints = prints-none (page c.args.printer.now (g.K.Sink.taken c.args.out.now) (g.K.Sink.faults c.args.out.now));
      leads = λ rest reached. subst (λ (xs : List SegmentValue). AreReachedTexts w.field.now w.text.now w.from 0 xs rest) same reached;
      made = subst (λ (xs : List SegmentValue). All IsMade xs) (sym same) c.requires.stand;
      left = c.into_iter-standing-iterator.ensures.into_iter_gives.1 ∙ c.args.segments.ok.0 ∙ ap (λ (xs : List SegmentValue). length xs) (sym same);
      count = omega (arith, ap (λ (xs : List SegmentValue). length xs) same);
    }

pub returns-then-has_failed : goal.returns-then-has_failed
returns-then-has_failed g c =
    let w = c.args.wanted in
    let first = page c.args.printer.now (g.K.Sink.taken c.args.out.now) (g.K.Sink.faults c.args.out.now) in
    let here = page c.loop-standing.printer (g.K.Sink.taken c.loop-standing.out) (g.K.Sink.faults c.loop-standing.out) in
    let so_far = c.loop-standing.invariant in
    let rest = reached-all w.field.now w.text.now w.from (into_iter_items c.loop-standing.standing-iterator) c.loop-standing.place so_far.made in (
      so_far.lines ++ rest.0,
      so_far.leads rest.0 rest.1,
      prints-then first here here so_far.lines rest.0 so_far.prints (prints-failed here rest.0 (sym c.has_failed.ensures.failed ∙ c.if-has_failed.true)),
    )

pub returns-in_default : goal.returns-in_default
returns-in_default g c =
    let w = c.args.wanted in
    let taken = g.K.Sink.taken c.loop-standing.out in
    let faults = g.K.Sink.faults c.loop-standing.out in
    let first = page c.args.printer.now (g.K.Sink.taken c.args.out.now) (g.K.Sink.faults c.args.out.now) in
    let last = page c.give_up.new.self taken faults in
    let so_far = c.loop-standing.invariant in
    let rest = reached-all w.field.now w.text.now w.from (into_iter_items c.loop-standing.standing-iterator) c.loop-standing.place so_far.made in (
      so_far.lines ++ rest.0,
      so_far.leads rest.0 rest.1,
      prints-then first (page c.loop-standing.printer taken faults) last so_far.lines rest.0 so_far.prints (c.give_up.ensures.printed taken faults rest.0),
    )

pub loop-standing-preserved : goal.loop-standing-preserved
loop-standing-preserved g c =
    let w = c.args.wanted in
    let all = c.args.segments.items in
    let place = c.loop-standing.place in
    let first = page c.args.printer.now (g.K.Sink.taken c.args.out.now) (g.K.Sink.faults c.args.out.now) in
    let here = page c.loop-standing.printer (g.K.Sink.taken c.loop-standing.out) (g.K.Sink.faults c.loop-standing.out) in
    let next = page c.reach_segment.new.printer (g.K.Sink.taken c.reach_segment.new.out) (g.K.Sink.faults c.reach_segment.new.out) in
    let so_far = c.loop-standing.invariant in
    let left = into_iter_items c.loop-standing.standing-iterator in
    let rest = into_iter_items c.next.new.self in
    let taken : left ≡ c.in-Some.standing ∷ rest = c.in-Some.ensures.steps.0 in
    let split : left ≡ c.in-Ok.reader ∷ rest = taken ∙ ap (λ (x : SegmentValue). x ∷ rest) (sym c.in-Ok.ensures) in
    let printed = c.reach_segment.ensures in
    record {
      lines = so_far.lines ++ printed.0;
      prints = prints-then first here next so_far.lines printed.0 so_far.prints printed.2;
      leads = leads-more w.field.now w.text.now w.from all place so_far.lines printed.0 c.in-Ok.reader rest
          (subst (λ (xs : List SegmentValue). LeadsOn w.field.now w.text.now w.from all place xs so_far.lines) split so_far.leads) printed.1;
      made = All-tail IsMade c.in-Some.standing rest (subst (λ (xs : List SegmentValue). All IsMade xs) taken so_far.made);
      left = omega (arith, so_far.left, c.in-Some.ensures.steps.1, ap (λ (xs : List SegmentValue). length xs) taken);
      count = omega (arith, so_far.count, ap (λ (xs : List SegmentValue). length xs) taken);
    }

pub returns : goal.returns
returns g c =
    let w = c.args.wanted in
    let all = c.args.segments.items in
    let so_far = c.loop-standing.invariant in
    let none = none-left (into_iter_items c.loop-standing.standing-iterator) (omega (arith, so_far.left, c.in-None.ensures.steps.0)) in (
      so_far.lines,
      leads-end w.field.now w.text.now w.from all c.loop-standing.place so_far.lines
          (subst (λ (xs : List SegmentValue). LeadsOn w.field.now w.text.now w.from all c.loop-standing.place xs so_far.lines) none so_far.leads),
      so_far.prints,
    )
