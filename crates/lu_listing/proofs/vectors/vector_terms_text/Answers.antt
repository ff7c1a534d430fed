use Rattle.std.proofs.Common.{List, ◌∷◌, sym, ap, ◌∙◌}
use Rattle.lu_model.specs.Index.{VectorTerm}
use Rattle.lu_listing.specs.Listing.{vector_term_line}
use Rattle.lu_listing.proofs.RestLemmas.{lacks-next, lacks-end}
use Rattle.lu_listing.proofs.PrintingLemmas.{lacks-failed}
use Rattle.lu_listing.proofs.WalkLemmas.{moved-on, none-left}
use Rattle.lu_listing.proofs.vectors.vector_terms_text.Goals as goal

pub returns-then-has_failed : goal.returns-then-has_failed
returns-then-has_failed g c = lacks-failed _ _ _ _ c.loop-printer.invariant cc

pub loop-printer-preserved : goal.loop-printer-preserved
loop-printer-preserved g c =
    let t = moved-on c.loop-printer.terms c.next.new.self (sym c.next.ensures.more ∙ c.loop-printer-test.true) c.next.ensures.moved in
    lacks-next vector_term_line _ _ _ _ t.0 _ _ c.loop-printer.invariant (t.1 ∙ ap (λ (left : List VectorTerm). t.0 ∷ left) (sym c.vector_term_text.ensures.left)) (c.vector_term_text.ensures.printed t.0 _ t.2)

pub returns : goal.returns
returns g c = lacks-end vector_term_line _ _ _ _ c.loop-printer.invariant (none-left _ (sym c.next.ensures.more ∙ c.loop-printer-test.false))
