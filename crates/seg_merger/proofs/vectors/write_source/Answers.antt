use Rattle.std.proofs.Common.{◌∙◌, ℕ, [], List, ap, sym, subst, get_or, map}
use Rattle.lu_model.specs.Contents.{live_from}
use Rattle.term_vectors.specs.VectorWriting.{IsDocumentWhole}
use Rattle.term_vectors.specs.Vectors.{StoredVector}
use Rattle.seg_merger.specs.Renumbered.{kept_vectors}
use Rattle.seg_merger.specs.VectorSteps.{with_vectors_of}
use Rattle.seg_merger.proofs.LiveLemmas.{live-next, live-passed}
use Rattle.seg_merger.proofs.VectorLemmas.{documents-next}
use Rattle.seg_merger.proofs.vectors.write_source.Goals as goal
use Rattle.seg_merger.proofs.vectors.write_source.Goals.{then-is_live+in-Ok, else-is_live}

pub loop-doc-preserved : goal.loop-doc-preserved
loop-doc-preserved c =
    let table = c.args.fields.now.table.now in
    let numbers = c.args.fields.now.numbers.now in
    let view = (λ (document : ℕ). kept_vectors table numbers (get_or c.args.reader.now.index.vectors document [])) in
    let deleted = c.args.reader.now.index.deleted in
    let n = c.loop-doc.doc in
    let start = c.args.writer.now in
    elim c.if-is_live.branch [
      | then-is_live+in-Ok w ↦ (
        subst IsDocumentWhole (sym w.writer-is) w.in-Ok.ensures.whole,
        documents-next (map view (live_from deleted 0 n)) (view n) start c.loop-doc.writer c.if-is_live.writer c.loop-doc.invariant.1 (w.writer-is ∙ w.in-Ok.ensures.written)
            ∙ ap (λ (documents : List (List StoredVector)). with_vectors_of documents start) (live-next view deleted n (sym c.is_live.ensures ∙ w.if-is_live.true)),
      )
      | else-is_live w ↦ (
        subst IsDocumentWhole (sym w.writer-is) c.loop-doc.invariant.0,
        w.writer-is ∙ c.loop-doc.invariant.1 ∙ ap (λ (documents : List (List StoredVector)). with_vectors_of documents start) (live-passed view deleted n (sym c.is_live.ensures ∙ w.if-is_live.false)),
      )
    ]
