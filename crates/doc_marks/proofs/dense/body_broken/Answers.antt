use Rattle.std.proofs.Common.{◌≡◌, true, false, eqb, length, get_or, refl, arith, sym, ap, ◌∙◌}
use Rattle.std.proofs.lemmas.Bool.{eq-eqb, ne_eqb}
use Rattle.doc_marks.specs.Marking.{marked, marked_at}
use Rattle.doc_marks.specs.Deletions.{is_past}
use Rattle.doc_marks.proofs.DelLemmas.{seen-byte, seen-body}
use Rattle.doc_marks.proofs.dense.body_broken.Goals as goal

pub loop-byte-preserved : goal.loop-byte-preserved
loop-byte-preserved c =
    let h = c.loop-byte.invariant in
    let i = c.loop-byte.byte-index in
    let size = c.args.segment.size in
    let body = c.args.body.now in
    let found = c.byte_marks-found in
    let k : found.result.documents ≡ length (marked_at i (get_or body i 0)) = found.ensures.documents ∙ ap (λ n. length (marked_at n (get_or body i 0))) h.same in
    let q : found.result.is_past ≡ is_past size (marked_at i (get_or body i 0)) = found.ensures.is_past ∙ ap (λ n. is_past size (marked_at n (get_or body i 0))) h.same in
    let s = seen-byte size i c.loop-byte.documents found.result.documents body (marked body) c.loop-byte.is_past found.result.is_past c.loop-byte-test.true k q (h.count, h.past) in
    rw c.from-documents.ensures (record { count = s.0; past = s.1; few = omega (arith, h.few, found.ensures.few); same = omega (arith, h.same) })

pub returns-then-documents-from : goal.returns-then-documents-from
returns-then-documents-from c =
    let h = c.loop-byte.invariant in
    let e = seen-body c.args.segment.size c.loop-byte.byte-index c.loop-byte.documents c.args.body.now c.loop-byte.is_past (omega arith) (h.count, h.past) in
    let fine : is_past c.args.segment.size (marked c.args.body.now) ≡ false = sym e.1 ∙ c.if-is_past.false in
    let other : eqb (length (marked c.args.body.now)) c.args.segment.count ≡ false = ne_eqb _ _ (λ same. c.if-documents-from.true (e.0 ∙ same ∙ sym c.from.ensures)) in
    rw (fine, other) refl

pub returns : goal.returns
returns c =
    let h = c.loop-byte.invariant in
    let e = seen-body c.args.segment.size c.loop-byte.byte-index c.loop-byte.documents c.args.body.now c.loop-byte.is_past (omega arith) (h.count, h.past) in
    let fine : is_past c.args.segment.size (marked c.args.body.now) ≡ false = sym e.1 ∙ c.if-is_past.false in
    let same : eqb (length (marked c.args.body.now)) c.args.segment.count ≡ true = eq-eqb _ _ (sym e.0 ∙ c.if-documents-from.false ∙ c.from.ensures) in
    rw (fine, same) refl
