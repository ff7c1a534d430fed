use Rattle.std.proofs.Common.{List, subst}
use Rattle.std.specs.List.{All}
use Rattle.lu_types.specs.declared.document.IndexedField.{IndexedField}
use Rattle.lu_types.specs.declared.stored.StoredValue.{StoredValue}
use Rattle.lu_types.specs.Documents.{IsIndexedField, IsStoredValue}
use Rattle.lu_types.proofs.validation.first_fault.Goals as goal

pub returns-clause-texts : goal.returns-clause-texts
returns-clause-texts c = λ none. record {
  stored = subst (λ (vs : List StoredValue). All IsStoredValue vs) c.as_slice.ensures (c.values_fault.ensures.texts c.in_default.is);
  indexed = subst (λ (fs : List IndexedField). All IsIndexedField fs) c.as_slice-2.ensures (c.first_field_fault.ensures.texts none);
}
