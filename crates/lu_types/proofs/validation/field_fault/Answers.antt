use Rattle.std.proofs.Common.{ℕ, ◌<◌, List, Option, subst}
use Rattle.std.specs.Prelude.{IfSome}
use Rattle.std.specs.List.{All}
use Rattle.lu_types.specs.declared.document.Token.{Token}
use Rattle.lu_types.specs.Documents.{IsToken}
use Rattle.lu_types.proofs.validation.field_fault.Goals as goal

pub returns-clause-texts : goal.returns-clause-texts
returns-clause-texts c = λ none. record {
  name = c.as_str-name.ensures.text;
  norm = subst (λ (n : Option ℕ). IfSome n (λ byte. byte < 256)) c.norm_of-norm.ensures.same c.norm_of-norm.ensures.byte;
  tokens = subst (λ (ts : List Token). All IsToken ts) c.as_slice-tokens.ensures (c.tokens_fault.ensures.texts none);
}
