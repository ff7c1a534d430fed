use Rattle.std.proofs.Common.{ap, sym, ◌∙◌, ◌++◌, ◌∷◌, [], take}
use Rattle.std.proofs.lemmas.List.{append_assoc}
use Rattle.seg_writer.specs.NormColumns.{norm_bytes}
use Rattle.seg_writer.proofs.NormFileLemmas.{column-in, norm_bytes-more}
use Rattle.seg_writer.proofs.norms.add_all.Goals as goal

pub loop-number-preserved : goal.loop-number-preserved
loop-number-preserved c docs are =
    let fields = c.args.fields.now in
    let field = c.index-fields-number.result in
    let i = c.loop-number.number in
    let old = c.args.writer.now in
    let own = column-in fields c.args.columns.now c.args.documents docs i field c.index-columns-number.result c.as_slice.result.now are c.loop-number-test.true c.index-fields-number.is c.index-columns-number.is c.as_slice.ensures.value in
    c.in-Ok.ensures docs own
    ∙ ap (λ w. w ++ norm_bytes docs (field ∷ [])) (c.loop-number.invariant docs are)
    ∙ append_assoc old (norm_bytes docs (take i fields)) (norm_bytes docs (field ∷ []))
    ∙ ap (λ w. old ++ w) (sym (norm_bytes-more docs fields i field c.loop-number-test.true c.index-fields-number.is))
