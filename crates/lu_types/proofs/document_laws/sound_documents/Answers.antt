use Rattle.lu_types.proofs.DocFaultLemmas.{IsSound-from_none}
use Rattle.lu_types.proofs.SoundLemmas.{doc_fault-none}
use Rattle.lu_types.proofs.document_laws.sound_documents.Goals as goal

pub returns-clause-sound : goal.returns-clause-sound
returns-clause-sound c = IsSound-from_none

pub returns-clause-only : goal.returns-clause-only
returns-clause-only c = doc_fault-none
