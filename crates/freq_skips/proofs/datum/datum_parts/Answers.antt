use Rattle.std.proofs.Common.{arith}
use Rattle.lu_grammar.specs.Parts.{vint, num}
use Rattle.lu_grammar.proofs.Codecs.{read_part-place}
use Rattle.freq_skips.proofs.datum.datum_parts.Goals as goal

pub returns-in-Ok-optional_vlong-clause-place : goal.returns-in-Ok-optional_vlong-clause-place
returns-in-Ok-optional_vlong-clause-place c = λ fits.
    let doc = read_part-place vint c.args.cur.now c.in-Ok.doc c.vint.new.self fits c.in-Ok.ensures in
    let payload = c.in-Ok-optional_num.ensures.place doc.1 in
    let freq = read_part-place num c.optional_num.new.cur c.in-Ok-num.freq c.num.new.self payload.1 c.in-Ok-num.ensures.takes in
    let prox = read_part-place num c.num.new.self c.in-Ok-num-2.prox c.num-2.new.self freq.1 c.in-Ok-num-2.ensures.takes in
    let child = c.in-Ok-optional_vlong.ensures.place prox.1 in
    (omega (arith, c.place-before_child.ensures, prox.0, freq.0, payload.0, doc.0), omega (arith, child.0, prox.0, freq.0, payload.0, doc.0), child.1)
