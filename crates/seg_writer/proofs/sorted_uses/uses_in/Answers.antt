use Rattle.std.proofs.Common.{subst, All, IsUtf8, arith}
use Rattle.std.proofs.lemmas.List.{take_all}
use Rattle.lu_types.specs.declared.document.Token.{Token}
use Rattle.seg_writer.specs.Columns.{tokens_in_field}
use Rattle.seg_writer.proofs.AllUsesLemmas.{field_uses-more, all-more}
use Rattle.seg_writer.proofs.sorted_uses.uses_in.Goals as goal

pub loop-entry-preserved : goal.loop-entry-preserved
loop-entry-preserved c = (
  grind (arith, field_uses-more, c.loop-entry.invariant.0),
  all-more (λ a. All (λ (token : Token). IsUtf8 token.text) (tokens_in_field a)) _ _ c.index-column-entry.result c.loop-entry-test.true c.loop-entry.invariant.1
      (subst (λ a. All (λ (token : Token). IsUtf8 token.text) (tokens_in_field a)) c.index-column-entry.is (subst (All (λ (token : Token). IsUtf8 token.text)) c.index-column-entry.result.tokens_of_field c.in_ok-push_uses.ensures.utf8)),
)

pub returns-clause-utf8 : goal.returns-clause-utf8
returns-clause-utf8 c = subst (All (λ a. All (λ (token : Token). IsUtf8 token.text) (tokens_in_field a))) (take_all c.loop-entry.entry c.args.column.now (let past = c.loop-entry-test.false in omega (arith, past))) c.loop-entry.invariant.1
