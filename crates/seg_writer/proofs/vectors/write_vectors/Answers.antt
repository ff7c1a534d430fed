use Rattle.std.proofs.Common.{ap, sym, ◌∙◌, subst, ◌^◌, ◌<◌, ◌≤◌, List, length, take}
use Rattle.std.proofs.lemmas.List.{take_all}
use Rattle.lu_types.specs.Tables.{TableField}
use Rattle.check_index.specs.Vectors.{have_vectors as some_have_vectors}
use Rattle.term_vectors.specs.VectorWriting.{no_vectors_written}
use Rattle.seg_writer.specs.VectorSteps.{AreWritableFields, vectors_of_fields, with_whole_document}
use Rattle.seg_writer.specs.VectorsDue.{vectors_of_documents}
use Rattle.seg_writer.proofs.VectorFieldLemmas.{vectors_by_fields, writable-fields}
use Rattle.seg_writer.proofs.VectorHeldLemmas.{with_whole_documents}
use Rattle.seg_writer.proofs.VectorLoopLemmas.{documents-between, documents-next}
use Rattle.seg_writer.proofs.VectorFileLemmas.{files-of, none-past, tvd-past, tvf-past, tvx-past}
use Rattle.seg_writer.proofs.vectors.write_vectors.Goals as goal

pub write_document-requires-clause-fields : goal.write_document-requires-clause-fields
write_document-requires-clause-fields c =
    let docs = c.args.docs.now in
    subst (AreWritableFields c.args.table.now) (sym c.as_slice.ensures)
    (subst (λ (t : List TableField). AreWritableFields t c.doc-item.result.indexed) (sym c.requires.table)
    (writable-fields docs c.loop-doc.doc-index c.doc-item.result (subst (λ (t : List TableField). length t < 2 ^ 31) c.requires.table c.requires.few) c.requires.writable c.requires.apart c.loop-doc-test.true c.doc-item.is))

pub write_document-requires-clause-whole : goal.write_document-requires-clause-whole
write_document-requires-clause-whole c = (documents-between c.args.table.now (take c.loop-doc.doc-index c.args.docs.now) c.loop-doc.writer c.loop-doc.invariant).whole

pub loop-doc-preserved : goal.loop-doc-preserved
loop-doc-preserved c =
    documents-next c.args.table.now c.args.docs.now c.loop-doc.doc-index c.doc-item.result c.loop-doc-test.true c.doc-item.is no_vectors_written c.loop-doc.writer c.write_document.new.writer c.loop-doc.invariant
    (c.in-Ok.ensures ∙ ap (λ fields. with_whole_document (vectors_of_fields c.args.table.now fields) c.loop-doc.writer) c.as_slice.ensures)

pub finish-files-requires : goal.finish-files-requires
finish-files-requires c = record { whole = (documents-between c.args.table.now (take c.loop-doc.doc-index c.args.docs.now) c.loop-doc.writer c.loop-doc.invariant).whole }

pub returns-then-as_slice-limit : goal.returns-then-as_slice-limit
returns-then-as_slice-limit c =
    let docs = c.args.docs.now in
    let table = c.args.table.now in
    let w = c.loop-doc.writer in
    let files = c.finish-files.result in
    let wanted = sym c.have_vectors.ensures ∙ c.if-not-have_vectors.false in
    let held = documents-between table docs w (c.loop-doc.invariant ∙ ap (λ ds. with_whole_documents (vectors_by_fields table ds) no_vectors_written) (take_all c.loop-doc.doc-index docs c.loop-doc-test.false)) in
    let of = files-of docs table w files c.requires.table held c.finish-files.ensures.tvx c.finish-files.ensures.tvd c.finish-files.ensures.tvf in
    tvf-past c.args.limit (some_have_vectors c.args.fields.now) (vectors_of_documents table docs) files wanted of
    (subst (λ bytes. c.args.limit < length bytes) c.as_slice-2.ensures c.if-as_slice-limit.true)

pub returns-then-as_slice-limit-2 : goal.returns-then-as_slice-limit-2
returns-then-as_slice-limit-2 c =
    let docs = c.args.docs.now in
    let table = c.args.table.now in
    let w = c.loop-doc.writer in
    let files = c.finish-files.result in
    let wanted = sym c.have_vectors.ensures ∙ c.if-not-have_vectors.false in
    let held = documents-between table docs w (c.loop-doc.invariant ∙ ap (λ ds. with_whole_documents (vectors_by_fields table ds) no_vectors_written) (take_all c.loop-doc.doc-index docs c.loop-doc-test.false)) in
    let of = files-of docs table w files c.requires.table held c.finish-files.ensures.tvx c.finish-files.ensures.tvd c.finish-files.ensures.tvf in
    tvd-past c.args.limit (some_have_vectors c.args.fields.now) (vectors_of_documents table docs) files wanted of
    (subst (λ bytes. length bytes ≤ c.args.limit) c.as_slice-2.ensures c.if-as_slice-limit.false) (subst (λ bytes. c.args.limit < length bytes) c.as_slice-3.ensures c.if-as_slice-limit-2.true)

pub returns-then-as_slice-limit-3 : goal.returns-then-as_slice-limit-3
returns-then-as_slice-limit-3 c =
    let docs = c.args.docs.now in
    let table = c.args.table.now in
    let w = c.loop-doc.writer in
    let files = c.finish-files.result in
    let wanted = sym c.have_vectors.ensures ∙ c.if-not-have_vectors.false in
    let held = documents-between table docs w (c.loop-doc.invariant ∙ ap (λ ds. with_whole_documents (vectors_by_fields table ds) no_vectors_written) (take_all c.loop-doc.doc-index docs c.loop-doc-test.false)) in
    let of = files-of docs table w files c.requires.table held c.finish-files.ensures.tvx c.finish-files.ensures.tvd c.finish-files.ensures.tvf in
    tvx-past c.args.limit (some_have_vectors c.args.fields.now) (vectors_of_documents table docs) files wanted of
    (subst (λ bytes. length bytes ≤ c.args.limit) c.as_slice-2.ensures c.if-as_slice-limit.false) (subst (λ bytes. length bytes ≤ c.args.limit) c.as_slice-3.ensures c.if-as_slice-limit-2.false) (subst (λ bytes. c.args.limit < length bytes) c.as_slice-4.ensures c.if-as_slice-limit-3.true)

pub returns : goal.returns
returns c =
    let docs = c.args.docs.now in
    let table = c.args.table.now in
    let w = c.loop-doc.writer in
    let files = c.finish-files.result in
    let wanted = sym c.have_vectors.ensures ∙ c.if-not-have_vectors.false in
    let held = documents-between table docs w (c.loop-doc.invariant ∙ ap (λ ds. with_whole_documents (vectors_by_fields table ds) no_vectors_written) (take_all c.loop-doc.doc-index docs c.loop-doc-test.false)) in
    let of = files-of docs table w files c.requires.table held c.finish-files.ensures.tvx c.finish-files.ensures.tvd c.finish-files.ensures.tvf in
    none-past c.args.limit (some_have_vectors c.args.fields.now) (vectors_of_documents table docs) files wanted of
    (subst (λ bytes. length bytes ≤ c.args.limit) c.as_slice-2.ensures c.if-as_slice-limit.false) (subst (λ bytes. length bytes ≤ c.args.limit) c.as_slice-3.ensures c.if-as_slice-limit-2.false) (subst (λ bytes. length bytes ≤ c.args.limit) c.as_slice-4.ensures c.if-as_slice-limit-3.false)
