use Rattle.std.proofs.Common.{ap, sym, ◌∙◌, subst, arith}
use Rattle.term_vectors.specs.VectorWriting.{VectorWriting, IsVectorWhole}
use Rattle.seg_writer.specs.VectorSteps.{has_field_vector}
use Rattle.seg_writer.proofs.VectorFieldLemmas.{length-filter_take-lt}
use Rattle.seg_writer.proofs.VectorLoopLemmas.{vectors-between}
use Rattle.seg_writer.proofs.vectors.write_document.Goals as goal

pub write_vector-requires-clause-whole : goal.write_vector-requires-clause-whole
write_vector-requires-clause-whole c = (vectors-between c.args.table.now c.args.fields.now c.loop-field.field-index c.begin_doc.new.self c.loop-field.writer (subst IsVectorWhole (sym c.in_ok-begin_doc.ensures.ok) (record { term = record { positions = c.requires.whole.vector.term.positions; spans = c.requires.whole.vector.term.spans }; terms = c.requires.whole.vector.terms })) c.loop-field.invariant).whole

pub write_vector-requires-clause-lacking : goal.write_vector-requires-clause-lacking
write_vector-requires-clause-lacking c =
    let now = vectors-between c.args.table.now c.args.fields.now c.loop-field.field-index c.begin_doc.new.self c.loop-field.writer (subst IsVectorWhole (sym c.in_ok-begin_doc.ensures.ok) (record { term = record { positions = c.requires.whole.vector.term.positions; spans = c.requires.whole.vector.term.spans }; terms = c.requires.whole.vector.terms })) c.loop-field.invariant in
    let left = now.vectors in
    let due = ap (λ (w : VectorWriting). w.lacks_vectors) c.in_ok-begin_doc.ensures.ok ∙ c.vector_count.ensures in
    let more = length-filter_take-lt has_field_vector c.args.fields.now c.loop-field.field-index c.field-item.result c.loop-field-test.true c.field-item.is (sym c.has_vector.ensures ∙ c.if-has_vector.true) in
    omega (arith, left, due, more)
