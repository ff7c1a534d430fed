use Rattle.std.proofs.Common.{ap, ◌∙◌, rules}
use Rattle.term_vectors.specs.OffsetPairs.{span_of}
use Rattle.term_vectors.specs.Walks.{VectorTermWalk}
use Rattle.lu_listing.specs.Listing.{span_text}
use Rattle.lu_listing.proofs.PrintingLemmas.{lacks-failed}
use Rattle.lu_listing.proofs.RestLemmas.{lacks-next, lacks-end}
use Rattle.lu_listing.proofs.vectors.spans_text.Goals as goal

pub returns-then-has_failed-clause-printed : goal.returns-then-has_failed-clause-printed
returns-then-has_failed-clause-printed g c = lacks-failed _ _ _ _ c.loop-span.invariant.0 (search rules)

pub returns-then-has_failed-clause-others : goal.returns-then-has_failed-clause-others
returns-then-has_failed-clause-others g c = c.in-Some.ensures.1 ∙ ap (λ (w : VectorTermWalk). record w { spans = c.offset.new.self.spans }) c.loop-span.invariant.1

pub loop-span-preserved : goal.loop-span-preserved
loop-span-preserved g c = (
  lacks-next span_text _ _ _ _ (span_of c.in-Some.span) _ _ c.loop-span.invariant.0 c.in-Some.ensures.0 c.span_text.ensures,
  c.in-Some.ensures.1 ∙ ap (λ (w : VectorTermWalk). record w { spans = c.offset.new.self.spans }) c.loop-span.invariant.1,
)

pub returns-clause-printed : goal.returns-clause-printed
returns-clause-printed g c = lacks-end span_text _ _ _ _ c.loop-span.invariant.0 c.in_default.ensures.0
