use Rattle.lu_types.proofs.DocFaultLemmas.{IsSound-from_none}
use Rattle.lu_model.proofs.SoundDocuments.{none-from_sound}
use Rattle.lu_model.proofs.laws.sound_documents.Goals as goal

pub returns : goal.returns
returns c = λ doc limits. (IsSound-from_none doc limits, none-from_sound doc limits)
