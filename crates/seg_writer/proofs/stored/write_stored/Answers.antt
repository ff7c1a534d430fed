use Rattle.std.proofs.Common.{ap, sym, ◌∙◌, subst, Err}
use Rattle.lu_types.specs.declared.document.Document.{Document}
use Rattle.lu_model.specs.Contents.{stored_in}
use Rattle.seg_writer.specs.Stores.{AreInTable, WritesValues}
use Rattle.seg_writer.proofs.StoreLemmas.{store-fault}
use Rattle.seg_writer.proofs.stored.write_stored.Goals as goal

pub write_values-requires-clause-there : goal.write_values-requires-clause-there
write_values-requires-clause-there c =
    let docs = c.args.docs.now in
    subst (AreInTable c.args.table.now) (ap (λ (d : Document). d.stored) (sym c.doc-item.is) ∙ sym c.as_slice.ensures) (c.requires.there c.loop-doc.doc-index c.doc-item.result c.loop-doc-test.true)

pub returns-in-Err : goal.returns-in-Err
returns-in-Err c =
    store-fault c.args.limit c.args.table.now c.args.docs.now c.loop-doc.doc-index c.doc-item.result c.in-Err.fault c.loop-doc.writer.finished c.write_values.new.writer c.requires.limit c.loop-doc-test.true c.doc-item.is
    (subst (λ vs. WritesValues c.loop-doc.writer.finished (stored_in c.args.table.now vs) c.write_values.new.writer (Err c.in-Err.fault)) c.as_slice.ensures c.in-Err.ensures)
