use Rattle.std.proofs.Common.{◌+◌, ◌<◌, ◌≤◌, None, length, get_or, drop, ap, arith, rules}
use Rattle.std.proofs.lemmas.Option.{unwrap_or-slice_get}
use Rattle.lu_model.specs.Valid.{AreNorms}
use Rattle.lu_listing.specs.Lines.{numbered}
use Rattle.lu_listing.specs.Listing.{norms_text}
use Rattle.lu_listing.proofs.PrintingLemmas.{prints-same, lacks-less, lacks-none, lacks-failed}
use Rattle.lu_listing.proofs.NumberedLemmas.{numbered-drop, numbered-drop_all}
use Rattle.lu_listing.proofs.SplitLemmas.{length-zip}
use Rattle.lu_listing.proofs.listing.all_norms_text.Goals as goal

pub returns-then-has_failed : goal.returns-then-has_failed
returns-then-has_failed g c = lacks-failed _ _ _ _ c.loop-field.invariant (search rules)

pub loop-field-preserved : goal.loop-field-preserved
loop-field-preserved g c =
    let index = c.args.reader.now.index in
    let norms = index.norms in
    let field = c.loop-field.field in
    let same = length-zip (AreNorms index.size) index.fields norms c.size-size.ensures.valid.norms in
    let lt : field < length norms = omega (arith, c.loop-field-test.true, c.count-field-end.ensures.count, ap length c.fields.ensures, same) in
    let printed = prints-same _ _ _ _ (ap (norms_text field) (unwrap_or-slice_get norms field None)) c.norms_text.ensures in
    lacks-less _ _ _ (norms_text field (get_or norms field None)) (numbered norms_text (field + 1) (drop (field + 1) norms)) (numbered norms_text field (drop field norms)) _ c.loop-field.invariant printed (numbered-drop norms_text norms field None lt)

pub returns : goal.returns
returns g c =
    let index = c.args.reader.now.index in
    let norms = index.norms in
    let field = c.loop-field.field in
    let same = length-zip (AreNorms index.size) index.fields norms c.size-size.ensures.valid.norms in
    let le : length norms ≤ field = omega (arith, c.loop-field-test.false, c.count-field-end.ensures.count, ap length c.fields.ensures, same) in
    lacks-none _ _ (numbered norms_text field (drop field norms)) _ c.loop-field.invariant (numbered-drop_all norms_text norms field le)
