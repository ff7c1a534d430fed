use Rattle.std.proofs.Common.{Ok, All, inl, inr, sym, ap, subst, ◌∙◌, arith}
use Rattle.lu_types.specs.Documents.{IsDocument}
use Rattle.std.proofs.lemmas.List.{take_rest}
use Rattle.lu_input.proofs.LineLemmas.{read_line, refuse_line, read_last, refuse_last, read_byte, moved, told}
use Rattle.lu_input.proofs.lines.read_documents.Goals as goal
use Rattle.lu_input.proofs.lines.read_documents.Goals.{then-byte-eq-LINE_FEED+in-Ok, else-byte-eq-LINE_FEED}

pub returns-in-Err-clause-err : goal.returns-in-Err-clause-err
returns-in-Err-clause-err c =
    let so = c.loop-place.invariant.so_far in
    elim (told _ c.loop-place.documents.items c.read_line.new.documents.items c.in-Err.fault c.in-Err.ensures.appends) [
      | inl m ↦ inl m
      | inr f ↦ inr (refuse_line c.args.limits.now c.args.bytes.now _ _ _ _ so c.loop-place-test.true c.if-byte-eq-LINE_FEED.true c.in-Err.fault f)
    ]

pub loop-place-preserved : goal.loop-place-preserved
loop-place-preserved c =
    let so = c.loop-place.invariant.so_far in
    elim c.if-byte-eq-LINE_FEED.branch [
      | then-byte-eq-LINE_FEED+in-Ok w ↦
          let kept = w.in-Ok.ensures.appends in
          record {
            within = omega (arith, w.start-is);
            counted = omega (arith, w.number-is, c.loop-place.invariant.counted);
            so_far = moved c.args.limits.now c.args.bytes.now _ _ _ _ _ _ _ (read_line c.args.limits.now c.args.bytes.now _ _ _ _ so c.loop-place-test.true w.if-byte-eq-LINE_FEED.true kept.0 kept.1) (ap (λ v. v.items) w.documents-is ∙ kept.2) w.number-is w.start-is;
            texts = subst (λ v. All IsDocument v.items) (sym w.documents-is) (w.in-Ok.ensures.texts c.loop-place.invariant.texts);
          }
      | else-byte-eq-LINE_FEED w ↦ record {
        within = omega (arith, w.start-is, c.loop-place.invariant.within);
        counted = omega (arith, w.number-is, c.loop-place.invariant.counted);
        so_far = moved c.args.limits.now c.args.bytes.now _ _ _ _ _ _ _ (read_byte c.args.limits.now c.args.bytes.now _ _ _ _ so c.loop-place.invariant.within c.loop-place-test.true w.if-byte-eq-LINE_FEED.false) (ap (λ v. v.items) w.documents-is) w.number-is w.start-is;
        texts = subst (λ v. All IsDocument v.items) (sym w.documents-is) c.loop-place.invariant.texts;
      }
    ]

pub returns-in-Ok-read_line-clause-ok : goal.returns-in-Ok-read_line-clause-ok
returns-in-Ok-read_line-clause-ok c =
    let so = c.loop-place.invariant.so_far in
    let kept = c.in-Ok-read_line.ensures.appends in
    read_last c.args.limits.now c.args.bytes.now _ _ _ _ so c.loop-place-test.false _ (take_rest c.args.bytes.now c.loop-place.start) kept.0 kept.1 ∙ ap (λ ds. Ok ds) (sym kept.2)

pub returns-in-Err-read_line-clause-err : goal.returns-in-Err-read_line-clause-err
returns-in-Err-read_line-clause-err c =
    let so = c.loop-place.invariant.so_far in
    elim (told _ c.loop-place.documents.items c.read_line-2.new.documents.items c.in-Err-read_line.fault c.in-Err-read_line.ensures.appends) [
      | inl m ↦ inl m
      | inr f ↦ inr (refuse_last c.args.limits.now c.args.bytes.now _ _ _ _ so c.loop-place-test.false _ (take_rest c.args.bytes.now c.loop-place.start) c.in-Err-read_line.fault f)
    ]

pub returns-in-Ok-read_line-clause-texts : goal.returns-in-Ok-read_line-clause-texts
returns-in-Ok-read_line-clause-texts c = c.in-Ok-read_line.ensures.texts c.loop-place.invariant.texts
