use Rattle.std.proofs.Common.{subst}
use Rattle.lu_listing.specs.Printing.{PrinterState, page, Prints}
use Rattle.lu_outcomes.specs.declared.status.Status.TheVariants.{Ok}
use Rattle.lu_outcomes.proofs.PieceLemmas.{start_at, printed-since, told-nothing}
use Rattle.lu_reads.proofs.ReachedLemmas.{reached-all}
use Rattle.lu_reads.proofs.reaching.reach.Goals as goal

pub returns-in_default-clause-tells : goal.returns-in_default-clause-tells
returns-in_default-clause-tells g c =
    let w = c.args.wanted in
    let lines = reached-all w.field.now w.text.now w.from c.args.segments.items 0 c.requires.stand in
    (lines.0, lines.1, told-nothing Ok lines.0 (g.K.Sink.taken c.args.out.now))

pub returns-clause-tells : goal.returns-clause-tells
returns-clause-tells g c =
    let taken = g.K.Sink.taken c.args.out.now in
    let faults = g.K.Sink.faults c.args.out.now in
    let last = page c.reach_segments.new.printer (g.K.Sink.taken c.reach_segments.new.out) (g.K.Sink.faults c.reach_segments.new.out) in
    let lines = c.reach_segments.ensures in
    let prints = subst (λ (printer : PrinterState). Prints (page printer taken faults) last lines.0) c.in-Ok.ensures lines.2 in
    (lines.0, lines.1, c.tell_rest.ensures.tells (start_at taken faults) lines.0 (printed-since taken faults last lines.0 prints))

pub returns-clause-cause : goal.returns-clause-cause
returns-clause-cause g c =
    let taken = g.K.Sink.taken c.args.out.now in
    let faults = g.K.Sink.faults c.args.out.now in
    let last = page c.reach_segments.new.printer (g.K.Sink.taken c.reach_segments.new.out) (g.K.Sink.faults c.reach_segments.new.out) in
    let lines = c.reach_segments.ensures in
    let prints = subst (λ (printer : PrinterState). Prints (page printer taken faults) last lines.0) c.in-Ok.ensures lines.2 in
    c.tell_rest.ensures.cause (start_at taken faults) lines.0 (printed-since taken faults last lines.0 prints)
