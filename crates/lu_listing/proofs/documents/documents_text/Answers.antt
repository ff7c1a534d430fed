use Rattle.std.proofs.Common.{◌<◌, ◌≤◌, rules}
use Rattle.lu_listing.specs.Listing.{document_text}
use Rattle.lu_listing.proofs.PrintingLemmas.{lacks-failed}
use Rattle.lu_listing.proofs.RestLemmas.{lacks-next, lacks-end}
use Rattle.lu_listing.proofs.SplitLemmas.{range-next, range-none}
use Rattle.lu_listing.proofs.documents.documents_text.Goals as goal

pub returns-then-has_failed : goal.returns-then-has_failed
returns-then-has_failed g c = lacks-failed _ _ _ _ c.loop-number.invariant (search rules)

pub loop-number-preserved : goal.loop-number-preserved
loop-number-preserved g c =
    let index = c.args.reader.now.index in
    let lt : c.loop-number.number < index.size = search rules in
    lacks-next (document_text index) _ _ _ _ c.loop-number.number _ _ c.loop-number.invariant (range-next c.loop-number.number index.size lt) c.document_text.ensures

pub returns : goal.returns
returns g c =
    let index = c.args.reader.now.index in
    let le : index.size ≤ c.loop-number.number = search rules in
    lacks-end (document_text index) _ _ _ _ c.loop-number.invariant (range-none c.loop-number.number index.size le)
