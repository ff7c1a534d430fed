use Rattle.stored_fields.proofs.DocumentLemmas.{PassedValues}
use Rattle.stored_fields.proofs.documents.pass_document.Given as goal

-- so many values are passed
abbrev pub invariant-loop-value : goal.invariant-loop-value
invariant-loop-value l = PassedValues l.asked l.fields l.initial.here l._value l.here
