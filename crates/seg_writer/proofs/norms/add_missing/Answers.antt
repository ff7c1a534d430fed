use Rattle.std.proofs.Common.{ap, ◌∙◌, ◌++◌, ◌∷◌, []}
use Rattle.std.proofs.lemmas.List.{append_assoc}
use Rattle.lu_model.specs.Contents.{missing_norm}
use Rattle.seg_writer.specs.NormColumns.{missing_norms}
use Rattle.seg_writer.proofs.NormLemmas.{missing-more}
use Rattle.seg_writer.proofs.norms.add_missing.Goals as goal

pub loop-preserved : goal.loop-preserved
loop-preserved c =
    c.in_ok-add.ensures.ok ∙ ap (λ w. w ++ missing_norm ∷ []) c.loop.invariant ∙ append_assoc c.args.writer.now (missing_norms c.loop.counter) (missing_norm ∷ []) ∙ ap (λ w. c.args.writer.now ++ w) (missing-more c.loop.counter)
