use Rattle.std.proofs.Common.{subst, All, IsUtf8, arith}
use Rattle.std.proofs.lemmas.List.{append_assoc, take_all}
use Rattle.lu_types.specs.declared.document.Token.{Token}
use Rattle.seg_writer.proofs.AllUsesLemmas.{token_uses-more, all-more}
use Rattle.seg_writer.proofs.sorted_uses.push_uses.Goals as goal

pub loop-number-preserved : goal.loop-number-preserved
loop-number-preserved c = (
  grind (arith, append_assoc, token_uses-more, c.loop-number.invariant.0),
  all-more (λ (token : Token). IsUtf8 token.text) _ _ c.index-tokens-number.result c.loop-number-test.true c.loop-number.invariant.1 (subst (λ (token : Token). IsUtf8 token.text) c.index-tokens-number.is c.as_str.ensures.text),
)

pub returns-clause-utf8 : goal.returns-clause-utf8
returns-clause-utf8 c = subst (All (λ (token : Token). IsUtf8 token.text)) (take_all c.loop-number.number c.args.tokens.now (let past = c.loop-number-test.false in omega (arith, past))) c.loop-number.invariant.1
