use Rattle.std.proofs.Common.{◌<◌, ◌^◌, List, length, refl, sym, subst, ◌∙◌, All, arith}
use Rattle.lu_types.specs.Tables.{IsTable, TableField}
use Rattle.lu_model.specs.Contents.{joined_table, merge_of}
use Rattle.lu_model.specs.Valid.{IsValid}
use Rattle.lu_model.proofs.Each.{each-from_all}
use Rattle.segment_files.specs.Parts.{intervals_of}
use Rattle.seg_writer.specs.declared.packing.WrittenParts.{WrittenParts}
use Rattle.seg_writer.proofs.PastLemmas.{few-fields}
use Rattle.seg_merger.specs.Merged.{indexes_of}
use Rattle.seg_merger.proofs.JoinedLemmas.{joined-is_table, joined-names}
use Rattle.seg_merger.proofs.MergeLemmas.{fields-fault, norms-fault, parts-told, positions-merged, stored-fault, terms-fault, vectors-fault}
use Rattle.seg_merger.proofs.SourceLemmas.{fields-merged}
use Rattle.seg_merger.proofs.merging.parts_of.Goals as goal

pub write_fields-requires-clause-table : goal.write_fields-requires-clause-table
write_fields-requires-clause-table g c few =
    let indexes = indexes_of c.args.readers.now in
    let valid = each-from_all IsValid indexes c.requires.valid in
    let is = c.as_slice-fields.ensures.value ∙ c.in_ok-infos.ensures ∙ c.in_ok-table.ensures in
    subst IsTable (sym is) (joined-is_table indexes valid (subst (λ (t : List TableField). length t < 2 ^ 31) is few))

pub write_fields-requires-clause-short : goal.write_fields-requires-clause-short
write_fields-requires-clause-short g c =
    let indexes = indexes_of c.args.readers.now in
    let valid = each-from_all IsValid indexes c.requires.valid in
    let is = c.as_slice-fields.ensures.value ∙ c.in_ok-infos.ensures ∙ c.in_ok-table.ensures in
    subst (λ t. All (λ (f : TableField). length f.name < 2 ^ 31) t) (sym is) (joined-names indexes valid)

pub returns-in-Err : goal.returns-in-Err
returns-in-Err g c =
    let indexes = indexes_of c.args.readers.now in
    let valid = each-from_all IsValid indexes c.requires.valid in
    let is = c.as_slice-fields.ensures.value ∙ c.in_ok-infos.ensures ∙ c.in_ok-table.ensures in
    fields-fault c.args.options.now (merge_of indexes) c.as_slice-fields.result.now (is ∙ sym (fields-merged indexes)) (positions-merged (intervals_of c.args.options.now) indexes valid) c.in-Err.fault c.in-Err.ensures

pub field_numbers-requires-clause-few : goal.field_numbers-requires-clause-few
field_numbers-requires-clause-few g c =
    let limits = c.args.options.now.limits in
    let most = limits.few_bytes in
    few-fields limits.file_bytes c.as_slice-fields.result.now c.in_ok-table.table (omega (arith, most)) (c.as_slice-fields.ensures.value ∙ c.in_ok-infos.ensures) c.in-Ok.ensures.0

pub write_stored-requires-clause-few : goal.write_stored-requires-clause-few
write_stored-requires-clause-few g c =
    let limits = c.args.options.now.limits in
    let most = limits.few_bytes in
    few-fields limits.file_bytes c.as_slice-fields.result.now (joined_table (indexes_of c.args.readers.now)) (omega (arith, most)) (c.as_slice-fields.ensures.value ∙ c.in_ok-infos.ensures ∙ c.in_ok-table.ensures) c.in-Ok.ensures.0

pub write_terms-requires-clause-few_fields : goal.write_terms-requires-clause-few_fields
write_terms-requires-clause-few_fields g c =
    let limits = c.args.options.now.limits in
    let most = limits.few_bytes in
    few-fields limits.file_bytes c.as_slice-fields.result.now c.as_slice-fields.result.now (omega (arith, most)) (refl) c.in-Ok.ensures.0

pub write_norms-requires-clause-few_fields : goal.write_norms-requires-clause-few_fields
write_norms-requires-clause-few_fields g c =
    let limits = c.args.options.now.limits in
    let most = limits.few_bytes in
    few-fields limits.file_bytes c.as_slice-fields.result.now c.as_slice-fields.result.now (omega (arith, most)) (refl) c.in-Ok.ensures.0

pub returns-in-Err-write_stored : goal.returns-in-Err-write_stored
returns-in-Err-write_stored g c =
    let indexes = indexes_of c.args.readers.now in
    let valid = each-from_all IsValid indexes c.requires.valid in
    let is = c.as_slice-fields.ensures.value ∙ c.in_ok-infos.ensures ∙ c.in_ok-table.ensures in
    stored-fault c.args.options.now (merge_of indexes) c.as_slice-fields.result.now (is ∙ sym (fields-merged indexes)) (positions-merged (intervals_of c.args.options.now) indexes valid) c.in-Ok.ensures.0 c.in-Err-write_stored.fault c.in-Err-write_stored.ensures

pub returns-in-Err-write_terms : goal.returns-in-Err-write_terms
returns-in-Err-write_terms g c =
    let indexes = indexes_of c.args.readers.now in
    let valid = each-from_all IsValid indexes c.requires.valid in
    let is = c.as_slice-fields.ensures.value ∙ c.in_ok-infos.ensures ∙ c.in_ok-table.ensures in
    terms-fault c.args.options.now (merge_of indexes) c.as_slice-fields.result.now (is ∙ sym (fields-merged indexes)) (positions-merged (intervals_of c.args.options.now) indexes valid) c.in-Ok.ensures.0 c.in-Ok-write_stored.ensures.0 c.in-Err-write_terms.fault c.in-Err-write_terms.ensures

pub returns-in-Err-write_norms : goal.returns-in-Err-write_norms
returns-in-Err-write_norms g c =
    let indexes = indexes_of c.args.readers.now in
    let valid = each-from_all IsValid indexes c.requires.valid in
    let is = c.as_slice-fields.ensures.value ∙ c.in_ok-infos.ensures ∙ c.in_ok-table.ensures in
    norms-fault c.args.options.now (merge_of indexes) c.as_slice-fields.result.now (is ∙ sym (fields-merged indexes)) (positions-merged (intervals_of c.args.options.now) indexes valid) c.in-Ok.ensures.0 c.in-Ok-write_stored.ensures.0 c.in-Ok-write_terms.ensures.0 c.in-Err-write_norms.fault c.in-Err-write_norms.ensures

pub returns-in-Err-write_vectors : goal.returns-in-Err-write_vectors
returns-in-Err-write_vectors g c =
    let indexes = indexes_of c.args.readers.now in
    let valid = each-from_all IsValid indexes c.requires.valid in
    let is = c.as_slice-fields.ensures.value ∙ c.in_ok-infos.ensures ∙ c.in_ok-table.ensures in
    vectors-fault c.args.options.now (merge_of indexes) c.as_slice-fields.result.now (is ∙ sym (fields-merged indexes)) (positions-merged (intervals_of c.args.options.now) indexes valid) c.in-Ok.ensures.0 c.in-Ok-write_stored.ensures.0 c.in-Ok-write_terms.ensures.0 c.in-Err-write_vectors.fault c.in-Ok-write_norms.ensures.0 c.in-Err-write_vectors.ensures

pub returns : goal.returns
returns g c =
    let indexes = indexes_of c.args.readers.now in
    let valid = each-from_all IsValid indexes c.requires.valid in
    let is = c.as_slice-fields.ensures.value ∙ c.in_ok-infos.ensures ∙ c.in_ok-table.ensures in
    let parts : WrittenParts = record {
      fnm = c.in-Ok.fnm;
      stored = c.in-Ok-write_stored.stored;
      postings = c.in-Ok-write_terms.postings;
      has_prox = c.keep_positions.result;
      nrm = c.in-Ok-write_norms.nrm;
      vectors = c.in-Ok-write_vectors.vectors;
    } in
    parts-told c.args.options.now (merge_of indexes) c.as_slice-fields.result.now (is ∙ sym (fields-merged indexes)) (positions-merged (intervals_of c.args.options.now) indexes valid) parts c.in-Ok.ensures c.in-Ok-write_stored.ensures c.in-Ok-write_terms.ensures c.in-Ok-write_norms.ensures c.in-Ok-write_vectors.ensures c.keep_positions.ensures
