use Rattle.std.proofs.Common.{◌≡◌, Some, None, take, ap, ◌∙◌, sym, subst}
use Rattle.std.specs.Prelude.{is_some}
use Rattle.std.proofs.lemmas.List.Elements.{All-more}
use Rattle.lu_types.specs.DocFaults.{is_named, named_field_fault}
use Rattle.lu_types.specs.Documents.{IsIndexedField}
use Rattle.lu_types.proofs.TwiceLemmas.{is_named-table, next_passes, next_fails, join_named}
use Rattle.lu_types.proofs.validation.first_field_fault.Goals as goal

pub returns-in-Some-clause-fault : goal.returns-in-Some-clause-fault
returns-in-Some-clause-fault c =
    let field = c.field-item.result in
    let earlier = take c.loop-field.field-index c.args.fields.now in
    let twice : c.is_some.result ≡ is_named field.field earlier = c.is_some.ensures ∙ ap is_some c.find.ensures.found ∙ is_named-table c.as_str-name.result.now field.field c.loop-field.names earlier c.as_str-name.ensures.same c.loop-field.invariant.names in
    let some : named_field_fault c.args.limits.now (is_named field.field earlier) field ≡ Some c.in-Some.fault = sym (ap (λ b. named_field_fault c.args.limits.now b field) twice) ∙ sym c.field_fault.ensures.fault ∙ c.in-Some.is in
    sym (c.loop-field.invariant.fault ∙ next_fails c.args.limits.now c.args.fields.now c.loop-field.field-index field c.in-Some.fault c.loop-field-test.true c.field-item.is some)

pub loop-field-preserved : goal.loop-field-preserved
loop-field-preserved c =
    let field = c.field-item.result in
    let fields = c.args.fields.now in
    let i = c.loop-field.field-index in
    let earlier = take i fields in
    let twice : c.is_some.result ≡ is_named field.field earlier = c.is_some.ensures ∙ ap is_some c.find.ensures.found ∙ is_named-table c.as_str-name.result.now field.field c.loop-field.names earlier c.as_str-name.ensures.same c.loop-field.invariant.names in
    let none : named_field_fault c.args.limits.now (is_named field.field earlier) field ≡ None = sym (ap (λ b. named_field_fault c.args.limits.now b field) twice) ∙ sym c.field_fault.ensures.fault ∙ c.in_default.is in
    record {
      fault = c.loop-field.invariant.fault ∙ next_passes c.args.limits.now fields i field c.loop-field-test.true c.field-item.is none;
      texts = All-more IsIndexedField fields i field c.loop-field-test.true c.loop-field.invariant.texts (subst IsIndexedField c.field-item.is (c.field_fault.ensures.texts c.in_default.is));
      names = c.in-Ok.ensures.joined ∙ join_named c.args.limits.now fields i field c.as_str-name.result.now c.loop-field.names c.loop-field-test.true c.field-item.is c.as_str-name.ensures.same c.loop-field.invariant.names none;
    }
