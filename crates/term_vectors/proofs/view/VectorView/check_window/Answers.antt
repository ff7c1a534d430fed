use Rattle.std.proofs.Common.{List, inl, inr, refl}
use Rattle.lu_types.specs.declared.fault.CodecFault.{CodecFault}
use Rattle.lu_types.specs.declared.fault.CodecFault.TheVariants as faults
use Rattle.lu_types.specs.declared.kind.FileKind.TheVariants.{Tvf}
use Rattle.lu_types.specs.declared.stored.Window.{Window}
use Rattle.lu_types.specs.Tables.{TableField}
use Rattle.lu_types.specs.FilePlans.{Judges}
use Rattle.lu_types.specs.Judging.{IsFault}
use Rattle.lu_grammar.specs.Meaning.{Reads}
use Rattle.lu_grammar.proofs.Codecs.{read_file-Reads}
use Rattle.std.proofs.Common.{ℕ, Some, Err}
use Rattle.lu_types.specs.Stores.{windowed}
use Rattle.term_vectors.specs.Places.{tvx_plan}
use Rattle.term_vectors.specs.Fields.{tvd_plan}
use Rattle.term_vectors.specs.Vectors.{StoredVector, tvf_plan}
use Rattle.term_vectors.specs.Stores.{places_in, slots_in, stored_vectors_in, vector_files}
use Rattle.term_vectors.proofs.Unasked.{slots_file}
use Rattle.term_vectors.proofs.StandLemmas.{windowed-many}
use Rattle.term_vectors.proofs.ValidDocuments.{values_valid}
use Rattle.term_vectors.specs.InnerViews.{HaveNoFault}
use Rattle.term_vectors.proofs.view.VectorView.check_window.Goals as goal

pub check_fields-requires : goal.check_fields-requires
check_fields-requires c = read_file-Reads (tvx_plan c.args.total) c.args.tvx.now (places_in c.args.total c.args.tvx.now) c.in_default.ensures

pub check_vectors-requires-clause-places : goal.check_vectors-requires-clause-places
check_vectors-requires-clause-places c = read_file-Reads (tvx_plan c.args.total) c.args.tvx.now (places_in c.args.total c.args.tvx.now) c.in_default.ensures

pub check_vectors-requires-clause-slots : goal.check_vectors-requires-clause-slots
check_vectors-requires-clause-slots c =
    let places = places_in c.args.total c.args.tvx.now in
    let plan = tvd_plan c.args.fields.now c.args.window places in
    slots_file c.args.fields.now c.args.window places c.args.tvd.now (slots_in places c.args.tvd.now) (read_file-Reads plan c.args.tvd.now (slots_in places c.args.tvd.now) c.in_default-check_fields.ensures)

-- a fault of the last file
last_fault : (total : ℕ) (window : Window) (fields : List TableField) (tvx tvd tvf : List ℕ) → Reads (tvx_plan total) tvx (places_in total tvx) → Reads (tvd_plan fields window (places_in total tvx)) tvd (slots_in (places_in total tvx) tvd)
    → (fault : CodecFault) → IsFault Tvf (tvf_plan (slots_in (places_in total tvx) tvd)) tvf fault → Judges {Y = List (List StoredVector)} (λ view. view) (vector_files total window fields (Some tvx) (Some tvd) (Some tvf)) (Err fault)
last_fault total window fields tvx tvd tvf places slots (faults.Spot spot) h = inr (places_in total tvx, places, inr (slots_in (places_in total tvx) tvd, slots, inl h))
last_fault total window fields tvx tvd tvf places slots faults.OutOfMemory h = tt

pub returns-in-Err-check_vectors-clause-files : goal.returns-in-Err-check_vectors-clause-files
returns-in-Err-check_vectors-clause-files c =
    last_fault c.args.total c.args.window c.args.fields.now c.args.tvx.now c.args.tvd.now c.args.tvf.now c.in_default.ensures c.in_default-check_fields.ensures c.in-Err-check_vectors.fault c.in-Err-check_vectors.ensures

pub invariant_of-result : goal.invariant_of-result
invariant_of-result c =
    let places = places_in c.args.total c.args.tvx.now in
    let slots = slots_in places c.args.tvd.now in
    let plan = tvd_plan c.args.fields.now c.args.window places in
    record {
      within = c.requires;
      tvd_bytes = λ i. (c.type_inv.tvd i).fits;
      tvf_bytes = λ i. (c.type_inv.tvf i).fits;
      places = read_file-Reads (tvx_plan c.args.total) c.args.tvx.now places c.in_default.ensures;
      slots = slots_file c.args.fields.now c.args.window places c.args.tvd.now slots (read_file-Reads plan c.args.tvd.now slots c.in_default-check_fields.ensures);
      vectors = read_file-Reads (tvf_plan slots) c.args.tvf.now (stored_vectors_in slots c.args.tvf.now) c.in_default-check_vectors.ensures;
    }

pub returns-clause-count : goal.returns-clause-count
returns-clause-count c =
    let places = places_in c.args.total c.args.tvx.now in
    let slots = slots_in places c.args.tvd.now in
    let plan = tvd_plan c.args.fields.now c.args.window places in
    let good : HaveNoFault c.args.total c.args.window c.args.tvx.now c.args.tvd.now c.args.tvf.now = record {
      within = c.requires;
      tvd_bytes = λ i. (c.type_inv.tvd i).fits;
      tvf_bytes = λ i. (c.type_inv.tvf i).fits;
      places = read_file-Reads (tvx_plan c.args.total) c.args.tvx.now places c.in_default.ensures;
      slots = slots_file c.args.fields.now c.args.window places c.args.tvd.now slots (read_file-Reads plan c.args.tvd.now slots c.in_default-check_fields.ensures);
      vectors = read_file-Reads (tvf_plan slots) c.args.tvf.now (stored_vectors_in slots c.args.tvf.now) c.in_default-check_vectors.ensures;
    } in
    windowed-many c.args.total c.args.window c.args.tvx.now c.args.tvd.now c.args.tvf.now good

pub returns-clause-valid : goal.returns-clause-valid
returns-clause-valid c short =
    let places = places_in c.args.total c.args.tvx.now in
    let slots = slots_in places c.args.tvd.now in
    values_valid c.args.total c.args.window c.args.fields.now c.args.tvx.now c.args.tvd.now c.args.tvf.now (windowed c.args.window (stored_vectors_in slots c.args.tvf.now)) (λ i. (c.type_inv.tvd i).fits) (λ i. (c.type_inv.tvf i).fits) c.requires short
    (places, c.in_default.ensures, (slots, c.in_default-check_fields.ensures, (stored_vectors_in slots c.args.tvf.now, c.in_default-check_vectors.ensures, refl)))
