use Rattle.std.proofs.Common.{ap, ◌∙◌, rules}
use Rattle.term_vectors.specs.Walks.{VectorTermWalk}
use Rattle.lu_listing.specs.Listing.{position_text}
use Rattle.lu_listing.proofs.PrintingLemmas.{lacks-failed}
use Rattle.lu_listing.proofs.RestLemmas.{lacks-next, lacks-end}
use Rattle.lu_listing.proofs.vectors.positions_text.Goals as goal

pub returns-then-has_failed-clause-printed : goal.returns-then-has_failed-clause-printed
returns-then-has_failed-clause-printed g c = lacks-failed _ _ _ _ c.loop-position.invariant.0 (search rules)

pub returns-then-has_failed-clause-others : goal.returns-then-has_failed-clause-others
returns-then-has_failed-clause-others g c = c.in-Some.ensures.1 ∙ ap (λ (w : VectorTermWalk). record w { positions = c.position.new.self.positions }) c.loop-position.invariant.1

pub loop-position-preserved : goal.loop-position-preserved
loop-position-preserved g c = (
  lacks-next position_text _ _ _ _ c.in-Some.position _ _ c.loop-position.invariant.0 c.in-Some.ensures.0 c.position_text.ensures,
  c.in-Some.ensures.1 ∙ ap (λ (w : VectorTermWalk). record w { positions = c.position.new.self.positions }) c.loop-position.invariant.1,
)

pub returns-clause-printed : goal.returns-clause-printed
returns-clause-printed g c = lacks-end position_text _ _ _ _ c.loop-position.invariant.0 c.in_default.ensures.0
