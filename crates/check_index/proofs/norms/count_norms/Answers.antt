use Rattle.std.proofs.Common.{◌<◌, length, sym, ◌∙◌, arith}
use Rattle.check_index.proofs.NormLemmas.{count-more, count-same}
use Rattle.check_index.proofs.norms.count_norms.Goals as goal
use Rattle.check_index.proofs.norms.count_norms.Goals.{then-has_norms, else-has_norms}

pub loop-number-preserved : goal.loop-number-preserved
loop-number-preserved c =
    let fields = c.args.fields.now in
    let number = c.loop-number.number in
    let lt : number < length fields = omega (arith, c.count-number-end.ensures.count) in
    elim c.if-has_norms.branch [
      | then-has_norms w ↦ omega (arith, count-more number fields lt (sym c.has_norms.ensures ∙ w.if-has_norms.true), w.count-is, c.loop-number.invariant)
      | else-has_norms w ↦ omega (arith, count-same number fields lt (sym c.has_norms.ensures ∙ w.if-has_norms.false), w.count-is, c.loop-number.invariant)
    ]
