use Rattle.std.proofs.Common.{ap, rules}
use Rattle.lu_listing.specs.Lines.{stored_line, stored_lines}
use Rattle.stored_fields.specs.Entries.{lent_field}
use Rattle.lu_listing.proofs.PrintingLemmas.{lacks-less, lacks-failed}
use Rattle.lu_listing.proofs.stored.stored_lines.Goals as goal

pub returns-then-has_failed : goal.returns-then-has_failed
returns-then-has_failed g c = lacks-failed _ _ _ _ c.loop-stored.invariant (search rules)

pub loop-stored-preserved : goal.loop-stored-preserved
loop-stored-preserved g c =
    lacks-less _ _ _ (stored_line (lent_field c.in-Some.stored)) (stored_lines c.next.new.self) (stored_lines c.loop-stored.doc) _ c.loop-stored.invariant c.stored_text.ensures
    (ap stored_lines c.in-Some.ensures)
