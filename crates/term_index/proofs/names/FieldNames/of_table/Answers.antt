use Rattle.std.proofs.Common.{◌∙◌, [], ◌∷◌, ap, map, arith}
use Rattle.std.proofs.lemmas.List.{map-append}
use Rattle.lu_types.specs.Fields.{table_field}
use Rattle.term_index.specs.InnerSearch.{lent}
use Rattle.term_index.proofs.NameLemmas.{names-more}
use Rattle.term_index.proofs.names.FieldNames.of_table.Goals as goal

pub loop-number-preserved : goal.loop-number-preserved
loop-number-preserved c =
    let texts = c.loop-number.texts.items in
    names-more c.args.fields.now (map lent texts) (map lent c.push.new.self.items) c.loop-number.number (table_field c.in-Some.field) (omega (arith, c.count-number-end.ensures.count)) c.loop-number.invariant c.in-Some.ensures
    (ap (map lent) c.in_ok-push.ensures.items ∙ map-append lent texts (c.in-Some.field.name ∷ []))
