use Rattle.std.proofs.Common.{◌+◌, length, refl, ap, ◌∙◌, arith}
use Rattle.std.proofs.lemmas.List.{length-append}
use Rattle.doc_marks.specs.Marking.{marked_at}
use Rattle.doc_marks.specs.Deletions.{no_pairs, pair as pair_of, with_pair}
use Rattle.doc_marks.proofs.DelLemmas.{pairs-fault, pairs-step, pairs-end, pairs_documents-is}
use Rattle.doc_marks.proofs.pairs.pass_pairs.Goals as goal

pub loop-passed-init : goal.loop-passed-init
loop-passed-init c = (no_pairs, c.args.segment.count, refl, refl, refl, omega arith, omega arith, omega arith)

pub returns-in-Err : goal.returns-in-Err
returns-in-Err c =
    let s = c.args.segment in
    let p = c.loop-passed.passed in
    let h = c.loop-passed.invariant in
    rw (c.at.ensures, c.place-place.ensures) (
      refl,
      h.2 ∙ pairs-fault s.size s.count h.1 p.index p.documents h.0 c.loop-passed.cur c.in-Err.rule h.3 h.4 c.loop-passed-test.true h.5 c.in-Err.ensures.gives,
    )

pub loop-passed-preserved : goal.loop-passed-preserved
loop-passed-preserved c =
    let s = c.args.segment in
    let p = c.loop-passed.passed in
    let h = c.loop-passed.invariant in
    let found = c.in-Ok.pair in
    let step = pairs-step s.size s.count h.1 p.index p.documents h.0 c.loop-passed.cur c.next_pair.new.cur found.gap found.marks h.3 h.4 c.loop-passed-test.true h.5 c.in-Ok.ensures.gives in (
      with_pair h.0 (pair_of found.gap found.marks),
      step.0,
      h.2 ∙ step.2,
      omega (arith, h.3),
      omega (arith, length-append h.0.documents (marked_at (h.0.index + found.gap) found.marks), h.4, c.in-Ok.ensures.documents, ap (λ n. length (marked_at (n + found.gap) found.marks)) h.3),
      omega (arith, step.1, h.5, c.in-Ok.ensures.some),
      c.in-Ok.ensures.index,
      c.in-Ok.ensures.few,
    )

pub returns : goal.returns
returns c =
    let s = c.args.segment in
    let h = c.loop-passed.invariant in
    pairs_documents-is s.size s.count c.args.cur.now c.loop-passed.cur h.0.documents (h.2 ∙ pairs-end s.size s.count h.1 h.0 c.loop-passed.cur (omega (arith, h.4, c.loop-passed-test.false)))
