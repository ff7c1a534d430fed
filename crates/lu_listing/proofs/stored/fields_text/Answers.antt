use Rattle.std.proofs.Common.{◌<◌, ◌+◌, [], length, get_or, drop, rules}
use Rattle.std.proofs.lemmas.Option.{slice_get-get_or}
use Rattle.lu_types.specs.Tables.{TableField}
use Rattle.lu_listing.specs.Lines.{field_line, field_lines}
use Rattle.lu_listing.proofs.PrintingLemmas.{lacks-less, lacks-failed}
use Rattle.lu_listing.proofs.NumberedLemmas.{numbered-drop}
use Rattle.lu_listing.proofs.stored.fields_text.Goals as goal

no_field : TableField
no_field = record { name = []; bits = 0 }

pub returns-then-has_failed : goal.returns-then-has_failed
returns-then-has_failed g c = lacks-failed _ _ _ _ c.loop-number.invariant (search rules)

pub loop-number-preserved : goal.loop-number-preserved
loop-number-preserved g c =
    let table = c.args.table.now in
    let number = c.loop-number.number in
    let lt : number < length table = search rules in
    lacks-less _ _ _ (field_line number (get_or table number no_field)) (field_lines (number + 1) (drop (number + 1) table)) (field_lines number (drop number table)) _ c.loop-number.invariant
    (c.numbered_text.ensures (get_or table number no_field) (slice_get-get_or table number no_field lt)) (numbered-drop field_line table number no_field lt)
