use Rattle.std.proofs.Common.{ℕ, length, ◌*◌, arith, ap, ◌∙◌}
use Rattle.doc_marks.specs.Marking.{places, bits}
use Rattle.doc_marks.specs.Deletions.{is_past}
use Rattle.doc_marks.proofs.DelLemmas.{seen-set, seen-clear, seen-all}
use Rattle.doc_marks.proofs.byte_marks.byte_marks.Goals as goal
use Rattle.doc_marks.proofs.byte_marks.byte_marks.Goals.{then-rest-eq1, else-rest-eq1}

pub loop-bit-preserved : goal.loop-bit-preserved
loop-bit-preserved c =
    let h = c.loop-bit.invariant in
    let first = c.from.result * c.from-2.result in
    let all = places first (bits 8 c.args.marks) in
    elim c.if-rest-eq1.branch [
      | then-rest-eq1 w ↦
          let s = seen-set c.args.size first c.loop-bit.bit c.loop-bit.rest c.loop-bit.found.documents all c.loop-bit.found.is_past c.loop-bit-test.true w.if-rest-eq1.true (h.documents, h.past) in
          rw (w.found-is, w.from-then-rest-eq1.ensures, w.from-then-rest-eq1-2.ensures) (record { documents = s.0; past = s.1; few = omega (arith, h.few) })
      | else-rest-eq1 w ↦
          let s = seen-clear c.args.size first c.loop-bit.bit c.loop-bit.rest c.loop-bit.found.documents all c.loop-bit.found.is_past c.loop-bit-test.true w.if-rest-eq1.false (h.documents, h.past) in
          rw w.found-is (record { documents = s.0; past = s.1; few = omega (arith, h.few) })
    ]

pub returns-clause-documents : goal.returns-clause-documents
returns-clause-documents c =
    let h = c.loop-bit.invariant in
    let first = c.from.result * c.from-2.result in
    let e = seen-all c.args.size first c.loop-bit.bit c.loop-bit.rest c.loop-bit.found.documents (places first (bits 8 c.args.marks)) c.loop-bit.found.is_past c.loop-bit-test.false (h.documents, h.past) in
    e.0 ∙ ap (λ (n : ℕ). length (places (n * c.from-2.result) (bits 8 c.args.marks))) c.from.ensures ∙ ap (λ (n : ℕ). length (places (8 * n) (bits 8 c.args.marks))) c.from-2.ensures

pub returns-clause-is_past : goal.returns-clause-is_past
returns-clause-is_past c =
    let h = c.loop-bit.invariant in
    let first = c.from.result * c.from-2.result in
    let e = seen-all c.args.size first c.loop-bit.bit c.loop-bit.rest c.loop-bit.found.documents (places first (bits 8 c.args.marks)) c.loop-bit.found.is_past c.loop-bit-test.false (h.documents, h.past) in
    e.1 ∙ ap (λ (n : ℕ). is_past c.args.size (places (n * c.from-2.result) (bits 8 c.args.marks))) c.from.ensures ∙ ap (λ (n : ℕ). is_past c.args.size (places (8 * n) (bits 8 c.args.marks))) c.from-2.ensures
