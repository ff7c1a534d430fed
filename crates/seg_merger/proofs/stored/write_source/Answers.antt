use Rattle.std.proofs.Common.{◌∙◌, ℕ, [], ◌∷◌, List, ap, sym, get_or, map}
use Rattle.lu_types.specs.StoredFields.{StoredField}
use Rattle.lu_model.specs.Contents.{live_from}
use Rattle.stored_fields.specs.Writing.{HeldDocuments}
use Rattle.seg_merger.specs.Renumbered.{renumbered_values, with_finished}
use Rattle.seg_merger.proofs.LiveLemmas.{live-next, live-passed}
use Rattle.seg_merger.proofs.StoredLemmas.{finished-next, finished-none}
use Rattle.seg_merger.proofs.stored.write_source.Goals as goal
use Rattle.seg_merger.proofs.stored.write_source.Goals.{then-is_live+in-Ok, else-is_live}

pub loop-doc-init : goal.loop-doc-init
loop-doc-init c = finished-none c.args.writer.now c.requires.closed

pub write_document-requires-clause-closed : goal.write_document-requires-clause-closed
write_document-requires-clause-closed c = ap (λ (held : HeldDocuments). held.opened) c.loop-doc.invariant

pub loop-doc-preserved : goal.loop-doc-preserved
loop-doc-preserved c =
    let view = (λ (document : ℕ). renumbered_values c.args.numbers.now (get_or c.args.reader.now.index.stored document [])) in
    let deleted = c.args.reader.now.index.deleted in
    let n = c.loop-doc.doc in
    let start = c.args.writer.now in
    elim c.if-is_live.branch [
      | then-is_live+in-Ok w ↦
          finished-next (map view (live_from deleted 0 n)) (view n ∷ []) start c.loop-doc.writer c.if-is_live.writer c.loop-doc.invariant (w.writer-is ∙ w.in-Ok.ensures)
          ∙ ap (λ (documents : List (List StoredField)). with_finished documents start) (live-next view deleted n (sym c.is_live.ensures ∙ w.if-is_live.true))
      | else-is_live w ↦
          w.writer-is ∙ c.loop-doc.invariant ∙ ap (λ (documents : List (List StoredField)). with_finished documents start) (live-passed view deleted n (sym c.is_live.ensures ∙ w.if-is_live.false))
    ]
