use Rattle.std.proofs.Common.{ap}
use Rattle.std.specs.List.{flat_map}
use Rattle.term_vectors.specs.Walks.{VectorTermWalk}
use Rattle.lu_listing.specs.Listing.{vector_term_line}
use Rattle.lu_listing.proofs.PrintingLemmas.{prints-same, prints-both}
use Rattle.lu_listing.proofs.vectors.vector_text.Goals as goal

pub returns-in-Ok : goal.returns-in-Ok
returns-in-Ok g c = prints-both _ _ _ _ _ c.vector_heading.ensures (prints-same _ _ _ _ (ap (λ (w : VectorTermWalk). flat_map vector_term_line w.left) c.in-Ok.ensures) c.vector_terms_text.ensures)

pub returns-in-Err : goal.returns-in-Err
returns-in-Err g c = prints-both _ _ _ _ _ c.vector_heading.ensures (c.give_up.ensures.printed _ _ _)
