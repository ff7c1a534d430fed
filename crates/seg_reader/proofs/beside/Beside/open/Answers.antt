use Rattle.std.proofs.Common.{◌∙◌, arith}
use Rattle.seg_reader.proofs.BesideLemmas.{skip-is}
use Rattle.seg_reader.proofs.beside.Beside.open.Goals as goal

pub returns-clause-open : goal.returns-clause-open
returns-clause-open c = λ t value all entry h kept lt is.
    let led = c.settle.ensures.leads t value all h.passed h.leads in
    let freq = c.from.ensures ∙ is in
    let skip = skip-is t value h.passed entry c.args.between c.from.result h.counts freq (omega (arith, c.from.ensures, c.requires.counted)) in
    c.open_doc.ensures t value all h.passed entry led.0 led.1 kept h.within lt skip is
