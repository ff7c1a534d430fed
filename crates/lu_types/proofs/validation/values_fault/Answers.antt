use Rattle.std.proofs.Common.{List, arith, subst}
use Rattle.std.specs.List.{All}
use Rattle.std.proofs.lemmas.List.{take_all}
use Rattle.std.proofs.lemmas.Grind.{common_steps}
use Rattle.std.proofs.lemmas.List.Elements.{All-more}
use Rattle.lu_types.specs.declared.stored.StoredValue.{StoredValue}
use Rattle.lu_types.specs.Documents.{IsStoredValue}
use Rattle.lu_types.proofs.validation.values_fault.Goals as goal

pub loop-value-preserved : goal.loop-value-preserved
loop-value-preserved c = record {
  fault = grind (arith, common_steps);
  texts = All-more IsStoredValue c.args.values.now c.loop-value.value-index c.value-item.result c.loop-value-test.true c.loop-value.invariant.texts (subst IsStoredValue c.value-item.is c.has_long_name.ensures.texts);
}

pub returns-clause-texts : goal.returns-clause-texts
returns-clause-texts c = λ _. subst (λ (vs : List StoredValue). All IsStoredValue vs) (take_all c.loop-value.value-index c.args.values.now c.loop-value-test.false) c.loop-value.invariant.texts
