use Rattle.std.proofs.Common.{◌≡◌, ap, sym, subst, ◌∙◌, length, get_or, arith}
use Rattle.term_vectors.specs.VectorWriting.{VectorWriting, IsTermWhole}
use Rattle.seg_writer.specs.Texts.{AreInverted}
use Rattle.seg_writer.specs.VectorSteps.{IsWritableText}
use Rattle.seg_writer.proofs.PostedLemmas.{no_inverted}
use Rattle.seg_writer.proofs.VectorLoopLemmas.{terms-between}
use Rattle.seg_writer.proofs.VectorTermLemmas.{terms-few, terms-writable, vector-handed}
use Rattle.seg_writer.proofs.vectors.write_vector.Goals as goal

pub overflow_cast-len : goal.overflow_cast-len
overflow_cast-len c =
    let terms = c.in_ok-terms.terms in
    let few = terms-few _ terms.items c.requires.field (subst (λ column. AreInverted column terms.items) c.as_slice-2.ensures c.in_ok-terms.ensures) in
    let own = c.len.ensures in
    omega (arith, few, own, terms.ok.0)

pub write_term-requires-clause-text : goal.write_term-requires-clause-text
write_term-requires-clause-text c =
    let items = c.deref-term-items.result.now in
    let inverted = subst (AreInverted _) (sym c.deref-term-items.ensures.value) (subst (λ column. AreInverted column c.in_ok-terms.terms.items) c.as_slice-2.ensures c.in_ok-terms.ensures) in
    let k = c.loop-term.term-index in
    subst (λ tokens. IsWritableText tokens (get_or items k no_inverted)) (sym c.as_slice-tokens.ensures) (terms-writable _ items c.requires.field inverted k no_inverted c.loop-term-test.true)

pub write_term-requires-clause-whole : goal.write_term-requires-clause-whole
write_term-requires-clause-whole c =
    let start = c.begin_field.new.self in
    let begun = c.in_ok-begin_field.ensures.ok in
    let lt = c.loop-term-test.true in
    let same = ap (λ (v : VectorWriting). v.bits) begun in
    let whole = subst IsTermWhole (sym begun) (record { positions = c.requires.whole.term.positions; spans = c.requires.whole.term.spans }) in
    let now = terms-between c.vector_bits-bits.result c.args.field.now.tokens c.deref-term-items.result.now c.loop-term.term-index start c.loop-term.writer (omega (arith, lt)) same whole c.loop-term.invariant in
    now.whole

pub write_term-requires-clause-lacking : goal.write_term-requires-clause-lacking
write_term-requires-clause-lacking c =
    let start = c.begin_field.new.self in
    let begun = c.in_ok-begin_field.ensures.ok in
    let lt = c.loop-term-test.true in
    let same = ap (λ (v : VectorWriting). v.bits) begun in
    let whole = subst IsTermWhole (sym begun) (record { positions = c.requires.whole.term.positions; spans = c.requires.whole.term.spans }) in
    let now = terms-between c.vector_bits-bits.result c.args.field.now.tokens c.deref-term-items.result.now c.loop-term.term-index start c.loop-term.writer (omega (arith, lt)) same whole c.loop-term.invariant in
    let left = now.terms in
    let due = ap (λ (v : VectorWriting). v.lacks_terms) begun in
    let own = c.len.ensures in
    let many = ap length c.deref-term-items.ensures.value in
    omega (arith, left, due, own, many, lt, c.in_ok-terms.terms.ok.0)

pub write_term-requires-clause-bits : goal.write_term-requires-clause-bits
write_term-requires-clause-bits c =
    let start = c.begin_field.new.self in
    let begun = c.in_ok-begin_field.ensures.ok in
    let lt = c.loop-term-test.true in
    let same = ap (λ (v : VectorWriting). v.bits) begun in
    let whole = subst IsTermWhole (sym begun) (record { positions = c.requires.whole.term.positions; spans = c.requires.whole.term.spans }) in
    let now = terms-between c.vector_bits-bits.result c.args.field.now.tokens c.deref-term-items.result.now c.loop-term.term-index start c.loop-term.writer (omega (arith, lt)) same whole c.loop-term.invariant in
    now.same.bits ∙ same

pub returns : goal.returns
returns c =
    let items = c.deref-term-items.result.now in
    let inverted = subst (AreInverted _) (sym c.deref-term-items.ensures.value) (subst (λ column. AreInverted column c.in_ok-terms.terms.items) c.as_slice-2.ensures c.in_ok-terms.ensures) in
    let own = c.len.ensures in
    let same = ap length c.deref-term-items.ensures.value in
    let many : c.len.result ≡ length items = omega (arith, own, same, c.in_ok-terms.terms.ok.0) in
    vector-handed _ items c.args.number c.vector_bits-bits.result c.len.result c.loop-term.term-index c.args.writer.now c.begin_field.new.self c.loop-term.writer inverted c.vector_bits-bits.ensures many c.loop-term-test.false c.in_ok-begin_field.ensures.ok c.loop-term.invariant
