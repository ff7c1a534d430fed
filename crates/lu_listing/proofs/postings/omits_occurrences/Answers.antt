use Rattle.std.proofs.Common.{◌≡◌, ap, ◌∙◌}
use Rattle.lu_types.specs.Bits as bit
use Rattle.lu_types.specs.Bits.{has_bit}
use Rattle.lu_model.specs.Contents.{field_at}
use Rattle.lu_listing.proofs.NamedLemmas.{number-own, field-own}
use Rattle.lu_listing.proofs.postings.omits_occurrences.Goals as goal

pub returns-in_default : goal.returns-in_default
returns-in_default c = λ number lt is.
    let clash = c.in_default.ensures ∙ number-own c.args.table.now number c.args.name.now c.count-count.ensures.table lt is in
    absurd (cc clash)

pub returns-in_default-field : goal.returns-in_default-field
returns-in_default-field c = λ number lt is.
    let clash = c.in_default-field.ensures ∙ field-own c.args.table.now number c.in-Some.number c.args.name.now c.count-count.ensures.table lt is c.in-Some.ensures in
    absurd (cc clash)

pub returns : goal.returns
returns c = λ number lt is.
    let both = c.in-Some-field.ensures ∙ field-own c.args.table.now number c.in-Some.number c.args.name.now c.count-count.ensures.table lt is c.in-Some.ensures in
    let same : c.in-Some-field.field.bits ≡ (field_at number c.args.table.now).bits = cc in
    c.has_bit.ensures ∙ ap (has_bit bit.omit_tf) same
