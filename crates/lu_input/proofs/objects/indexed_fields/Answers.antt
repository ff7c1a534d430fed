use Rattle.std.proofs.Common.{◌≡◌, Option, Some, Bor, option_map, sym, subst}
use Rattle.serde_json.specs.View.{view}
use Rattle.serde_json.specs.declared.value.Value.{Value}
use Rattle.lu_input.specs.Lengths.{HasShortTexts, HasShortTextsIfAny}
use Rattle.lu_input.proofs.ValueLengths.{item-short}
use Rattle.lu_input.proofs.objects.indexed_fields.Goals as goal

short-there : (member : Option (Bor Value)) (value : Bor Value) → member ≡ Some value → HasShortTextsIfAny (option_map (λ v. view v.now) member) → HasShortTexts (view value.now)
short-there member value is h = subst (λ (o : Option (Bor Value)). HasShortTextsIfAny (option_map (λ v. view v.now) o)) is h

pub indexed_field-requires : goal.indexed_field-requires
indexed_field-requires c =
    item-short (view c.in-Some.value.now) c.in-Some-as_array.items.now.items c.deref-item-items.result.now c.loop-item.item-index c.item-item.result (short-there c.args.member c.in-Some.value c.in-Some.is c.requires) (sym c.in-Some-as_array.ensures)
    c.deref-item-items.ensures.value c.loop-item-test.true c.item-item.is
