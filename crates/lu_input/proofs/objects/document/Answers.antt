use Rattle.std.proofs.Common.{codes, sym, subst}
use Rattle.serde_json.specs.View.{view}
use Rattle.lu_input.specs.Lengths.{HasShortTextsIfAny}
use Rattle.lu_input.proofs.ValueLengths.{get-short}
use Rattle.lu_input.proofs.objects.document.Goals as goal

pub indexed_fields-requires : goal.indexed_fields-requires
indexed_fields-requires c = subst HasShortTextsIfAny (sym c.get-2.ensures) (get-short (codes "indexed") (view c.args.value.now) c.requires)
