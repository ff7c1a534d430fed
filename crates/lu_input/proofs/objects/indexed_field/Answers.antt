use Rattle.std.proofs.Common.{codes, sym, subst}
use Rattle.serde_json.specs.View.{view}
use Rattle.lu_input.specs.Lengths.{HasShortTextsIfAny}
use Rattle.lu_input.proofs.ValueLengths.{get-short}
use Rattle.lu_input.proofs.objects.indexed_field.Goals as goal

pub tokens-requires : goal.tokens-requires
tokens-requires c = subst HasShortTextsIfAny (sym c.get-5.ensures) (get-short (codes "text") (view c.args.value.now) c.requires)
