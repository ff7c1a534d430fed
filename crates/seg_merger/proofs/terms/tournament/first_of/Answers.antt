use Rattle.std.proofs.Common.{ap, sym, ◌∙◌, refl, inl}
use Rattle.seg_merger.specs.TermRests.{Rest, rest_heads}
use Rattle.seg_merger.specs.TermSources.{first_term}
use Rattle.seg_merger.proofs.TreeLemmas.{compared, before-less, before-greater, before-itself}
use Rattle.seg_merger.proofs.terms.tournament.first_of.Goals as goal

pub returns-in-Greater-clause-left : goal.returns-in-Greater-clause-left
returns-in-Greater-clause-left c =
    before-greater (rest_heads c.args.slots.now) c.args.a c.args.b
    (sym c.in-Greater.is ∙ compared c.args.slots.now c.args.a c.args.b c.index-slots-a.result c.index-slots-b.result _ _ _ _ _ c.requires.0 c.requires.1 (c.head-left.ensures ∙ ap (λ (r : Rest). first_term r.left) c.index-slots-a.is) (c.head-right.ensures ∙ ap (λ (r : Rest). first_term r.left) c.index-slots-b.is) c.head_cmp.ensures c.cmp.ensures c.then.ensures)

pub returns-in-Greater-clause-right : goal.returns-in-Greater-clause-right
returns-in-Greater-clause-right c = before-itself (rest_heads c.args.slots.now) c.args.b

pub returns-in_default : goal.returns-in_default
returns-in_default c = record {
  either = inl refl;
  left = before-itself (rest_heads c.args.slots.now) c.args.a;
  right =
      before-less (rest_heads c.args.slots.now) c.args.a c.args.b c.then.result
      (compared c.args.slots.now c.args.a c.args.b c.index-slots-a.result c.index-slots-b.result _ _ _ _ _ c.requires.0 c.requires.1 (c.head-left.ensures ∙ ap (λ (r : Rest). first_term r.left) c.index-slots-a.is) (c.head-right.ensures ∙ ap (λ (r : Rest). first_term r.left) c.index-slots-b.is) c.head_cmp.ensures c.cmp.ensures c.then.ensures) c.in_default.not-Greater;
}
