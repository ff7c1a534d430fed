use Rattle.std.proofs.Common.{◌<◌, ◌∙◌, ◌^◌, [], List, ap, sym, refl, subst, get_or, length}
use Rattle.lu_types.specs.StoredFields.{StoredField}
use Rattle.stored_fields.specs.Entries.{lent_field}
use Rattle.seg_merger.proofs.StoredLemmas.{AreWritten, few-values, valid-values, written-all, written-more, written-none, written-open, written-valid}
use Rattle.seg_merger.proofs.stored.write_document.Goals as goal

pub value_count-requires : goal.value_count-requires
value_count-requires c = subst (λ (vs : List StoredField). length vs < 2 ^ 31) (sym c.stored.ensures) (few-values c.args.reader.now.index c.requires.valid c.args.doc c.requires.doc)

pub loop-value-init : goal.loop-value-init
loop-value-init c =
    let index = c.args.reader.now.index in
    let numbers = c.args.numbers.now in
    let finished = c.args.writer.now.finished in
    let values = get_or index.stored c.args.doc [] in
    subst (λ left. AreWritten numbers finished values left c.begin.new.self) (sym c.stored-values.ensures)
    (written-none numbers finished values c.value_count.result c.args.writer.now c.begin.new.self (c.value_count.ensures ∙ ap length c.stored.ensures) refl c.in_ok-begin.ensures.ok (valid-values index c.requires.valid c.args.doc c.requires.doc numbers c.requires.numbers))

pub write_value-requires-clause-lacking : goal.write_value-requires-clause-lacking
write_value-requires-clause-lacking c =
    let index = c.args.reader.now.index in
    let numbers = c.args.numbers.now in
    let finished = c.args.writer.now.finished in
    let values = get_or index.stored c.args.doc [] in
    written-open numbers finished values (lent_field c.in-Some.value) c.next.new.self c.loop-value.values c.loop-value.writer c.in-Some.ensures c.loop-value.invariant

pub write_value-requires-clause-field : goal.write_value-requires-clause-field
write_value-requires-clause-field c =
    let index = c.args.reader.now.index in
    let numbers = c.args.numbers.now in
    let finished = c.args.writer.now.finished in
    let values = get_or index.stored c.args.doc [] in
    (written-valid numbers finished values (lent_field c.in-Some.value) c.next.new.self c.loop-value.values c.loop-value.writer c.in-Some.ensures c.loop-value.invariant).0

pub write_value-requires-clause-small : goal.write_value-requires-clause-small
write_value-requires-clause-small c = c.requires.numbers.small

pub write_value-requires-clause-short : goal.write_value-requires-clause-short
write_value-requires-clause-short c =
    let index = c.args.reader.now.index in
    let numbers = c.args.numbers.now in
    let finished = c.args.writer.now.finished in
    let values = get_or index.stored c.args.doc [] in
    (written-valid numbers finished values (lent_field c.in-Some.value) c.next.new.self c.loop-value.values c.loop-value.writer c.in-Some.ensures c.loop-value.invariant).1.1

pub loop-value-preserved : goal.loop-value-preserved
loop-value-preserved c =
    let index = c.args.reader.now.index in
    let numbers = c.args.numbers.now in
    let finished = c.args.writer.now.finished in
    let values = get_or index.stored c.args.doc [] in
    written-more numbers finished values (lent_field c.in-Some.value) c.next.new.self c.loop-value.values c.loop-value.writer c.write_value.new.writer c.in-Some.ensures c.loop-value.invariant c.in-Ok.ensures

pub returns : goal.returns
returns c =
    let index = c.args.reader.now.index in
    let numbers = c.args.numbers.now in
    let finished = c.args.writer.now.finished in
    let values = get_or index.stored c.args.doc [] in
    written-all numbers finished values c.loop-value.values c.args.writer.now c.loop-value.writer refl c.in_default.ensures.0 c.loop-value.invariant
