use Rattle.std.proofs.Common.{subst, sym, ap, ◌∙◌}
use Rattle.doc_marks.specs.Lent.{IsSoundForm}
use Rattle.doc_marks.specs.Walking.{IsWalk}
use Rattle.doc_marks.specs.declared.form.Form.TheVariants.{Nothing, Dense, Sparse}
use Rattle.doc_marks.specs.declared.pair_walk.PairWalk.{PairWalk}
use Rattle.doc_marks.proofs.WalkLemmas.{IsWalk-unpaired, IsWalk-sparse}
use Rattle.doc_marks.proofs.walk.LiveWalk.along.Goals as goal
use Rattle.doc_marks.proofs.walk.LiveWalk.along.Goals.{in-Nothing, in-Dense, in-Sparse}

pub invariant_of-result : goal.invariant_of-result
invariant_of-result c =
    let w0 = c.match-form.pairs in
    let s = c.args.segment in
    elim c.match-form.branch [
      | in-Nothing w ↦
          let sound : IsSoundForm Nothing s = subst (λ f. IsSoundForm f s) w.in-Nothing.is c.requires in
          subst (λ f. IsWalk f w0) (sym w.in-Nothing.is) (IsWalk-unpaired Nothing s w0 sound tt (ap (λ (x : PairWalk). x.segment) (w.pairs-is ∙ w.at_start-pairs.ensures)))
      | in-Dense w ↦
          let sound : IsSoundForm (Dense w.in-Dense.body) s = subst (λ f. IsSoundForm f s) w.in-Dense.is c.requires in
          subst (λ f. IsWalk f w0) (sym w.in-Dense.is) (IsWalk-unpaired (Dense w.in-Dense.body) s w0 sound tt (ap (λ (x : PairWalk). x.segment) (w.pairs-is ∙ w.at_start-pairs-in-Dense.ensures)))
      | in-Sparse w ↦
          let sound : IsSoundForm (Sparse w.in-Sparse.del) s = subst (λ f. IsSoundForm f s) w.in-Sparse.is c.requires in
          subst (λ f. IsWalk f w0) (sym w.in-Sparse.is) (IsWalk-sparse s w.in-Sparse.del w0 sound (w.pairs-is ∙ w.at_start-pairs-in-Sparse.ensures))
    ]
