use Rattle.std.proofs.Common.{◌<◌, length, sym, ◌∙◌, arith}
use Rattle.check_index.proofs.VectorFiles.{have-some, have-none}
use Rattle.check_index.proofs.vectors.have_vectors.Goals as goal

pub returns-then-has_vectors : goal.returns-then-has_vectors
returns-then-has_vectors c =
    let fields = c.args.fields.now in
    let number = c.loop-number.number in
    let lt : number < length fields = omega (arith, c.count-number-end.ensures.count) in
    sym (have-some fields number lt (sym c.has_vectors.ensures ∙ c.if-has_vectors.true))

pub loop-number-preserved : goal.loop-number-preserved
loop-number-preserved c =
    let fields = c.args.fields.now in
    let number = c.loop-number.number in
    let lt : number < length fields = omega (arith, c.count-number-end.ensures.count) in
    have-none fields number lt c.loop-number.invariant (sym c.has_vectors.ensures ∙ c.if-has_vectors.false)
