use Rattle.std.proofs.Common.{◌<◌, ◌+◌, [], length, get_or, drop, ap, rules}
use Rattle.lu_listing.specs.Lines.{doc_text, doc_lines}
use Rattle.lu_listing.proofs.PrintingLemmas.{prints-same, lacks-less, lacks-failed}
use Rattle.lu_listing.proofs.NumberedLemmas.{numbered-drop}
use Rattle.lu_listing.proofs.stored.docs_text.Goals as goal

pub returns-then-has_failed : goal.returns-then-has_failed
returns-then-has_failed g c = lacks-failed _ _ _ _ c.loop-number.invariant (search rules)

pub loop-number-preserved : goal.loop-number-preserved
loop-number-preserved g c =
    let documents = c.args.view.now in
    let number = c.loop-number.number in
    let lt : number < length documents = search rules in
    lacks-less _ _ _ (doc_text number (get_or documents number [])) (doc_lines (number + 1) (drop (number + 1) documents)) (doc_lines number (drop number documents)) (doc_lines 0 documents) c.loop-number.invariant
    (prints-same _ _ _ _ (ap (doc_text number) c.doc.ensures) c.doc_text.ensures) (numbered-drop doc_text documents number [] lt)
