use Rattle.std.proofs.Common.{◌<◌, ◌^◌, ℕ, List, [], ◌∷◌, length, sym, ◌∙◌, subst, All, arith}
use Rattle.lu_types.specs.Tables.{IsTable, TableField}
use Rattle.lu_types.specs.declared.document.Document.{Document}
use Rattle.lu_types.specs.declared.kind.FileKind.TheVariants.{Fnm}
use Rattle.lu_model.proofs.WrittenTables.{table_of-is_table}
use Rattle.posting_files.specs.States.{named}
use Rattle.seg_writer.specs.Stores.{AreInTable}
use Rattle.seg_writer.specs.declared.packing.WrittenParts.{WrittenParts}
use Rattle.seg_writer.proofs.PastLemmas.{few-fields}
use Rattle.seg_writer.proofs.SegmentDocumentLemmas.{faultless-apart, faultless-names, faultless-writable, stored-there}
use Rattle.seg_writer.proofs.SegmentLemmas.{columns-fault, fields-fault, parts-told, stored-fault, vectors-fault}
use Rattle.seg_writer.proofs.segment.parts_of.Goals as goal

pub write_fields-requires-clause-table : goal.write_fields-requires-clause-table
write_fields-requires-clause-table c few =
    let is = c.as_slice-fields.ensures.value ∙ c.in_ok-infos.ensures ∙ c.requires.table in
    subst IsTable (sym is) (table_of-is_table c.args.docs.now (subst (λ (t : List TableField). length t < 2 ^ 31) is few))

pub write_fields-requires-clause-short : goal.write_fields-requires-clause-short
write_fields-requires-clause-short c =
    let is = c.as_slice-fields.ensures.value ∙ c.in_ok-infos.ensures ∙ c.requires.table in
    subst (λ t. All (λ (f : TableField). length f.name < 2 ^ 31) t) (sym is) (faultless-names c.args.options.now.limits c.args.docs.now c.requires.faultless)

pub returns-in-Err : goal.returns-in-Err
returns-in-Err c =
    fields-fault c.args.options.now c.args.docs.now c.args.table.now c.as_slice-fields.result.now c.requires.table (c.as_slice-fields.ensures.value ∙ c.in_ok-infos.ensures) (λ (fnm : List ℕ). named Fnm fnm ∷ []) c.in-Err.fault c.in-Err.ensures

pub write_stored-requires-clause-few : goal.write_stored-requires-clause-few
write_stored-requires-clause-few c =
    let limits = c.args.options.now.limits in
    let most = limits.few_bytes in
    few-fields limits.file_bytes c.as_slice-fields.result.now c.args.table.now (omega (arith, most)) (c.as_slice-fields.ensures.value ∙ c.in_ok-infos.ensures) c.in-Ok.ensures.0

pub write_stored-requires-clause-there : goal.write_stored-requires-clause-there
write_stored-requires-clause-there c = subst (λ t. All (λ (doc : Document). AreInTable t doc.stored) c.args.docs.now) (sym c.requires.table) (stored-there c.args.docs.now)

pub returns-in-Err-write_stored : goal.returns-in-Err-write_stored
returns-in-Err-write_stored c =
    stored-fault c.args.options.now c.args.docs.now c.args.table.now c.as_slice-fields.result.now c.requires.table (c.as_slice-fields.ensures.value ∙ c.in_ok-infos.ensures) c.in-Err-write_stored.fault c.in-Ok.ensures.0 c.in-Err-write_stored.ensures

pub column_files-requires-clause-few_fields : goal.column_files-requires-clause-few_fields
column_files-requires-clause-few_fields c =
    let limits = c.args.options.now.limits in
    let most = limits.few_bytes in
    few-fields limits.file_bytes c.as_slice-fields.result.now c.args.table.now (omega (arith, most)) (c.as_slice-fields.ensures.value ∙ c.in_ok-infos.ensures) c.in-Ok.ensures.0

pub returns-in-Err-column_files : goal.returns-in-Err-column_files
returns-in-Err-column_files c =
    columns-fault c.args.options.now c.args.docs.now c.args.table.now c.as_slice-fields.result.now c.requires.table (c.as_slice-fields.ensures.value ∙ c.in_ok-infos.ensures) c.in-Err-column_files.fault c.in-Ok.ensures.0 c.in-Ok-write_stored.ensures.0 c.in-Err-column_files.ensures

pub write_vectors-requires-clause-few : goal.write_vectors-requires-clause-few
write_vectors-requires-clause-few c =
    let limits = c.args.options.now.limits in
    let most = limits.few_bytes in
    few-fields limits.file_bytes c.as_slice-fields.result.now c.args.table.now (omega (arith, most)) (c.as_slice-fields.ensures.value ∙ c.in_ok-infos.ensures) c.in-Ok.ensures.0

pub write_vectors-requires-clause-writable : goal.write_vectors-requires-clause-writable
write_vectors-requires-clause-writable c = faultless-writable c.args.options.now.limits c.args.docs.now c.requires.faultless

pub write_vectors-requires-clause-apart : goal.write_vectors-requires-clause-apart
write_vectors-requires-clause-apart c = faultless-apart c.args.options.now.limits c.args.docs.now c.requires.faultless

pub returns-in-Err-write_vectors : goal.returns-in-Err-write_vectors
returns-in-Err-write_vectors c =
    vectors-fault c.args.options.now c.args.docs.now c.args.table.now c.as_slice-fields.result.now c.requires.table (c.as_slice-fields.ensures.value ∙ c.in_ok-infos.ensures) c.in-Err-write_vectors.fault c.in-Ok.ensures.0 c.in-Ok-write_stored.ensures.0 c.in-Ok-column_files.ensures.0 c.in-Err-write_vectors.ensures

pub returns : goal.returns
returns c =
    let files = c.in-Ok-column_files.files in
    let parts : WrittenParts = record {
      fnm = c.in-Ok.fnm;
      stored = c.in-Ok-write_stored.stored;
      postings = files.postings;
      has_prox = c.keep_positions.result;
      nrm = files.nrm;
      vectors = c.in-Ok-write_vectors.vectors;
    } in
    parts-told c.args.options.now c.args.docs.now c.args.table.now c.as_slice-fields.result.now c.requires.table (c.as_slice-fields.ensures.value ∙ c.in_ok-infos.ensures) parts c.in-Ok.ensures c.in-Ok-write_stored.ensures c.in-Ok-column_files.ensures c.in-Ok-write_vectors.ensures c.keep_positions.ensures
