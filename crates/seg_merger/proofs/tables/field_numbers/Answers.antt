use Rattle.std.proofs.Common.{◌≡◌, ◌∙◌, true, ap, sym, subst, All, map}
use Rattle.std.specs.Prelude.{is_some}
use Rattle.lu_types.specs.Tables.{TableField, number_of}
use Rattle.lu_model.proofs.Found.{get_in}
use Rattle.lu_model.specs.Contents.{field_number}
use Rattle.lu_model.proofs.Words.{IsIn}
use Rattle.seg_merger.specs.Merged.{AreFieldNumbers, indexes_of}
use Rattle.seg_merger.proofs.JoinedLemmas.{field-numbers-next, joined-there, source-in}
use Rattle.seg_merger.proofs.tables.field_numbers.Goals as goal

pub numbers_in-requires-clause-there : goal.numbers_in-requires-clause-there
numbers_in-requires-clause-there c =
    let sources = c.args.readers.now in
    let s = c.reader-item.result in
    let inside = subst (λ x. IsIn x sources) (sym c.reader-item.is) (get_in sources c.loop-reader.reader-index s c.loop-reader-test.true) in
    subst (λ fields. All (λ (f : TableField). is_some (number_of f.name c.args.table.now) ≡ true) fields) (sym c.fields.ensures)
    (subst (λ table. All (λ (f : TableField). is_some (number_of f.name table) ≡ true) s.index.fields) (sym c.requires.table) (joined-there (indexes_of sources) s.index (source-in sources s inside)))

pub loop-reader-preserved : goal.loop-reader-preserved
loop-reader-preserved c =
    let table = c.args.table.now in
    let are = c.in-Ok.ensures ∙ ap (map (λ (f : TableField). field_number f.name table)) c.fields.ensures in
    subst (AreFieldNumbers table _) (sym c.in-Ok-push.ensures.items) (field-numbers-next table c.args.readers.now c.loop-reader.reader-index c.reader-item.result c.loop-reader.numbers.items c.in-Ok.own c.loop-reader-test.true c.reader-item.is are c.loop-reader.invariant)
