use Rattle.std.proofs.Common.{◌∙◌, ap, sym, get_or}
use Rattle.lu_types.specs.Bits as bit
use Rattle.lu_types.specs.Bits.{has_bit}
use Rattle.lu_model.specs.Contents.{field_at}
use Rattle.term_vectors.specs.Vectors.{StoredVector}
use Rattle.seg_writer.specs.VectorSteps.{with_whole_vector}
use Rattle.seg_merger.proofs.VectorLemmas.{vectors-next}
use Rattle.seg_merger.proofs.vectors.write_document.Goals as goal

pub loop-vector-preserved-in-Ok : goal.loop-vector-preserved-in-Ok
loop-vector-preserved-in-Ok c =
    let table = c.args.fields.now.table.now in
    let numbers = c.args.fields.now.numbers.now in
    let v = c.in-Some.vector in
    let w = c.loop-vector.writer in
    let number = c.field-number.ensures.number in
    let kept = ap (λ n. has_bit bit.vectors (field_at (get_or numbers n 0) table).bits) (sym number) ∙ sym c.is_kept.ensures ∙ c.if-is_kept.true in
    let step = c.in-Ok.ensures ∙ ap (λ n. let u : StoredVector = record { field = get_or numbers n 0; bits = v.bits; terms = v.terms } in with_whole_vector u w) number in
    vectors-next table numbers c.begin_doc.new.self w c.write_vector.new.writer c.args.vectors.now c.loop-vector.left c.next.new.self v c.in-Some.ensures kept step c.loop-vector.invariant
