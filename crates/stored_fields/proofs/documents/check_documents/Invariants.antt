use Rattle.stored_fields.specs.Stores.{places_in}
use Rattle.stored_fields.proofs.DocumentLemmas.{PassedDocuments}
use Rattle.stored_fields.proofs.documents.check_documents.Given as goal

-- so many documents are passed
abbrev pub invariant-loop-number : goal.invariant-loop-number
invariant-loop-number l = PassedDocuments l.fn.window l.fields (places_in l.total l.fn.window l.fdx) l.initial.here l.number l.here
