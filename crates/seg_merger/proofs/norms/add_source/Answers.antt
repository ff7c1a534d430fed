use Rattle.std.proofs.Common.{◌∙◌, ◌++◌, [], ◌∷◌, ap, sym, map, append_assoc}
use Rattle.std.specs.Prelude.{option_copied}
use Rattle.lu_model.specs.Contents.{live_from}
use Rattle.seg_merger.specs.Renumbered.{norm_of}
use Rattle.seg_merger.proofs.LiveLemmas.{live-next, live-passed}
use Rattle.seg_merger.proofs.norms.add_source.Goals as goal
use Rattle.seg_merger.proofs.norms.add_source.Goals.{then-is_live+in-Ok, else-is_live}

pub loop-doc-preserved : goal.loop-doc-preserved
loop-doc-preserved c =
    let view = norm_of (option_copied c.args.norms) in
    let deleted = c.args.reader.now.index.deleted in
    let n = c.loop-doc.doc in
    let start = c.args.writer.now in
    let front = map view (live_from deleted 0 n) in
    elim c.if-is_live.branch [
      | then-is_live+in-Ok w ↦
          w.writer-is ∙ w.in-Ok.ensures.ok ∙ ap (λ b. c.loop-doc.writer ++ b ∷ []) w.norm_in.ensures ∙ ap (λ ns. ns ++ view n ∷ []) c.loop-doc.invariant ∙ append_assoc start front (view n ∷ [])
          ∙ ap (λ ns. start ++ ns) (live-next view deleted n (sym c.is_live.ensures ∙ w.if-is_live.true))
      | else-is_live w ↦ w.writer-is ∙ c.loop-doc.invariant ∙ ap (λ ns. start ++ ns) (live-passed view deleted n (sym c.is_live.ensures ∙ w.if-is_live.false))
    ]
