use Rattle.std.proofs.Common.{subst}
use Rattle.lu_listing.specs.Printing.{PrinterState, page, Prints}
use Rattle.lu_listing.specs.Lines.{doc_lines}
use Rattle.lu_outcomes.specs.declared.status.Status.TheVariants.{Ok}
use Rattle.lu_outcomes.proofs.PieceLemmas.{start_at, printed-since, told-nothing}
use Rattle.lu_reads.proofs.reading.print_documents.Goals as goal

pub returns-in_default-clause-tells : goal.returns-in_default-clause-tells
returns-in_default-clause-tells g c = told-nothing Ok (doc_lines 0 c.args.view.now) (g.K.Sink.taken c.args.out.now)

pub returns-clause-tells : goal.returns-clause-tells
returns-clause-tells g c =
    let taken = g.K.Sink.taken c.args.out.now in
    let faults = g.K.Sink.faults c.args.out.now in
    let text = doc_lines 0 c.args.view.now in
    let last = page c.docs_text.new.printer (g.K.Sink.taken c.docs_text.new.out) (g.K.Sink.faults c.docs_text.new.out) in
    let prints = subst (λ (printer : PrinterState). Prints (page printer taken faults) last text) c.in-Ok.ensures c.docs_text.ensures in
    c.tell_rest.ensures.tells (start_at taken faults) text (printed-since taken faults last text prints)

pub returns-clause-cause : goal.returns-clause-cause
returns-clause-cause g c =
    let taken = g.K.Sink.taken c.args.out.now in
    let faults = g.K.Sink.faults c.args.out.now in
    let text = doc_lines 0 c.args.view.now in
    let last = page c.docs_text.new.printer (g.K.Sink.taken c.docs_text.new.out) (g.K.Sink.faults c.docs_text.new.out) in
    let prints = subst (λ (printer : PrinterState). Prints (page printer taken faults) last text) c.in-Ok.ensures c.docs_text.ensures in
    c.tell_rest.ensures.cause (start_at taken faults) text (printed-since taken faults last text prints)
