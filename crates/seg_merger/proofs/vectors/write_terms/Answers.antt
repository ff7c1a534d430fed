use Rattle.std.proofs.Common.{◌∙◌, ap, refl, sym, subst}
use Rattle.lu_model.proofs.Each.{each-from_all}
use Rattle.lu_model.specs.Valid.{IsVectorTerm}
use Rattle.seg_writer.specs.VectorSteps.{with_whole_term}
use Rattle.seg_merger.specs.VectorSteps.{passed_term}
use Rattle.seg_merger.proofs.VectorLemmas.{AreTermsLeft, moved-on, terms-next}
use Rattle.seg_merger.proofs.vectors.write_terms.Goals as goal

pub loop-writer-init : goal.loop-writer-init
loop-writer-init c = record {
  same = refl;
  bits = refl;
  whole = c.requires.whole;
  lacks = c.requires.lacking;
  terms = each-from_all (IsVectorTerm c.args.writer.now.bits) c.args.terms.left c.requires.kept;
}

pub loop-writer-preserved : goal.loop-writer-preserved
loop-writer-preserved c =
    let w = c.loop-writer.writer in
    let left = c.loop-writer.terms.left in
    let t = moved-on c.loop-writer.terms c.next.new.self (sym c.next.ensures.more ∙ c.loop-writer-test.true) c.next.ensures.moved in
    subst (AreTermsLeft c.args.writer.now c.write_term.new.writer c.args.terms.left) (sym c.in-Ok.ensures.left)
    (terms-next c.args.writer.now w c.write_term.new.writer c.args.terms.left left c.next.new.self.left t.0 t.1 (c.in-Ok.ensures.written ∙ ap (λ walk. with_whole_term (passed_term walk) w) t.2) c.loop-writer.invariant)
