use Rattle.lu_listing.specs.Listing.{vector_text}
use Rattle.lu_listing.proofs.RestLemmas.{lacks-next, lacks-end}
use Rattle.lu_listing.proofs.PrintingLemmas.{lacks-failed}
use Rattle.lu_listing.proofs.vectors.vectors_text.Goals as goal

pub returns-then-has_failed : goal.returns-then-has_failed
returns-then-has_failed g c = lacks-failed _ _ _ _ c.loop-vector.invariant cc

pub loop-vector-preserved : goal.loop-vector-preserved
loop-vector-preserved g c = lacks-next vector_text _ _ _ _ c.in-Some.vector _ _ c.loop-vector.invariant c.in-Some.ensures c.vector_text.ensures

pub returns : goal.returns
returns g c = lacks-end vector_text _ _ _ _ c.loop-vector.invariant c.in_default.ensures.0
